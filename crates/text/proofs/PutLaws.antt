-- A loop that puts the bytes of a text: with what is left put after it, what stands there is the whole. Assumes nothing.
use Rattle.std.proofs.Common.{◌≡◌, refl, List, [], ◌∷◌, ◌++◌, ℕ, ◌+◌, ◌*◌, ◌/◌, ◌%◌, ◌≤◌, ◌<◌, add-one, arith, length, drop, set, drop_of_length-le, drop-cons}
use Rattle.laws.specs.Lists.{at}
use Rattle.laws.proofs.PutLaws.{Left, less_left, none_left, put_then}
use Rattle.io.specs.Digits.{hex_digit_ascii}
use Rattle.text.specs.Numbers.{hex_bytes}
use Rattle.laws.specs.Outputs.{Put}

put_one : (out : List ℕ) (place byte : ℕ) → Put (byte ∷ []) out place (set out place byte) (place + 1)
put_one out place byte = record { ends = refl; holds = refl }

-- two digits a turn
module _ (bytes out start : List ℕ) (place i : ℕ) (left : Left (hex_bytes (drop i bytes)) out (place + 2 * i) (hex_bytes bytes) start place) where
  pub hex_put : i < length bytes
      → Left (hex_bytes (drop (i + 1) bytes)) (set (set out (place + 2 * i) (hex_digit_ascii (at bytes i / 16))) (place + (2 * i + 1)) (hex_digit_ascii (at bytes i % 16))) (place + 2 * (i + 1)) (hex_bytes bytes) start
      place
  unfolding hex_bytes
  hex_put h =
      let high = hex_digit_ascii (at bytes i / 16) in
      let low = hex_digit_ascii (at bytes i % 16) in
      let e : hex_bytes (drop i bytes) ≡ (high ∷ low ∷ []) ++ hex_bytes (drop (i + 1) bytes) = rw (add-one i, drop-cons bytes i 0 h) in
      let f : place + 2 * i + 1 ≡ place + (2 * i + 1) = omega arith in
      let g : place + (2 * i + 1) + 1 ≡ place + 2 * (i + 1) = omega arith in
      rw (f, g) at (less_left (rw e at left) (put_then (put_one out (place + 2 * i) high) (put_one _ (place + 2 * i + 1) low)))

  pub hex_bytes_put : i ≡ length bytes → Put (hex_bytes bytes) start place out (place + 2 * length bytes)
  unfolding hex_bytes
  hex_bytes_put e =
      let h : length bytes ≤ i = omega arith in
      rw (← e) (none_left (rw (drop_of_length-le bytes h) at left))
