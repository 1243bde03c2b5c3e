-- Rules K and M: video.
use Rattle.std.specs.Prelude.{ℕ, zero, suc, ◌+◌, ◌*◌, ◌-◌, ◌/◌, ◌%◌, List, cond, length, ltb}
use Rattle.std.specs.Int.Bits.{bit_xor}
use Rattle.laws.specs.Lists.{tab, at}
use Rattle.key.specs.declared.Keys.{Keys}

-- "The tail from 0x140 is cut into rows of 32": its byte in a row and a lane
abbrev pub tail : List ℕ → ℕ → ℕ → ℕ
tail payload r lane = at payload (0x140 + r * 0x20 + lane)

-- "clear row 0 = stored row 0 ^ V; clear row r = stored row r ^ clear row r-1 ^ V"
unfoldable pub clear : List ℕ → List ℕ → ℕ → ℕ → ℕ
clear v payload zero lane = bit_xor (tail payload 0 lane) (at v lane)
clear v payload (suc r) lane = bit_xor (tail payload (suc r) lane) (bit_xor (clear v payload r lane) (at v lane))

-- the payload with another tail, given by row and lane
unfoldable pub with_tail_at : (ℕ → ℕ → ℕ) → List ℕ → ℕ → ℕ
with_tail_at row payload p = cond (ltb p 0x140) (at payload p) (row ((p - 0x140) / 0x20) (p % 0x20))

unfoldable pub with_tail : (ℕ → ℕ → ℕ) → List ℕ → List ℕ
with_tail row payload = tab (with_tail_at row payload) (length payload)

abbrev pub clear_tail : List ℕ → List ℕ → List ℕ
clear_tail v payload = with_tail (clear v payload) payload

-- "T ^ clear tail rows 0 to r", of a payload whose tail is clear
unfoldable pub head_mask : List ℕ → List ℕ → ℕ → ℕ → ℕ
head_mask t payload zero lane = bit_xor (tail payload 0 lane) (at t lane)
head_mask t payload (suc r) lane = bit_xor (tail payload (suc r) lane) (head_mask t payload r lane)

-- "head row r (0 to 7, from 0x40) = stored head row r ^ T ^ clear tail rows 0 to r"; "bytes below 0x40 stay"
unfoldable pub xored_head_at : List ℕ → List ℕ → ℕ → ℕ
xored_head_at t payload p =
    cond (ltb p 0x40) (at payload p)
    (cond (ltb p 0x140) (bit_xor (at payload p) (head_mask t payload ((p - 0x40) / 0x20) (p % 0x20))) (at payload p))

unfoldable pub xored_head : List ℕ → List ℕ → List ℕ
xored_head t payload = tab (xored_head_at t payload) (length payload)

-- "payload under 0x240: unchanged"; else the tail is made clear, and "Then" the head
unfoldable pub unmasked_video : Keys → List ℕ → List ℕ
unmasked_video keys payload = cond (ltb (length payload) 0x240) payload (xored_head keys.t (clear_tail keys.v payload))

-- "Masking is the reverse": stored row 0 = clear row 0 ^ V; stored row r = clear row r ^ clear row r-1 ^ V
unfoldable pub stored : List ℕ → List ℕ → ℕ → ℕ → ℕ
stored v payload zero lane = bit_xor (tail payload 0 lane) (at v lane)
stored v payload (suc r) lane = bit_xor (tail payload (suc r) lane) (bit_xor (tail payload r lane) (at v lane))

abbrev pub stored_tail : List ℕ → List ℕ → List ℕ
stored_tail v payload = with_tail (stored v payload) payload

-- the head first, by the clear tail, and then the tail
unfoldable pub masked_video : Keys → List ℕ → List ℕ
masked_video keys payload = cond (ltb (length payload) 0x240) payload (stored_tail keys.v (xored_head keys.t payload))
