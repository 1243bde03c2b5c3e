-- What is needed for turns to be read back: no payload of a film begins with the end marker, and its ends are no chunks. Assumes nothing.
use Prim.Native.Nat.{ℕ, zero, suc, ◌+◌, ◌*◌}
use mathlib.Core.Path.{◌≡◌, refl, sym, ap, ◌∙◌}
use mathlib.Core.List.{List}
use mathlib.Core.Bool.{Bool, true, false, ◌||◌}
use native.Mathlib.Omega.{arith}
use lib.ListN.{length, take, drop}
use lib.Seq.{drop-drop}
use lib.Dec.{ltb}
use Rattle.signature.specs.Signatures.{contents_end, same_bytes, stands_at}
use Rattle.write_blocks.specs.Blocks.{head_of, block_of}
use Rattle.write_blocks.specs.Tables.{marker_of}
use Rattle.write_plan.specs.Payloads.{payloads_of}
use Rattle.write_plan.specs.Films.{bytes_of, in_each}
use Rattle.write_plan.specs.Planning.{any_marked}
use Rattle.write_plan.proofs.PlanLaws.{marked_here, unmarked_more}
use Rattle.turns.specs.declared.Form.TheVariants.{New}
use Rattle.turns.specs.Chunks.{chunk_of, inside_of, is_end, payload_in}
use Rattle.turns.proofs.ChunkLaws.{no_end}
use Rattle.turns.proofs.BackLaws.{NoChunk, NoEnd}

pub neither : (s t : Bool) → (s || t) ≡ false → (s ≡ false) × (t ≡ false)
neither true t e = let z : ◌≡◌ {A = ℕ} 0 1 = cc in absurd (omega arith)
neither false t e = (refl, e)

told : (stream : List ℕ) (t : Bool) → stands_at contents_end (take 0x10000 stream) 0 ≡ t → any_marked (payloads_of stream) ≡ false → t ≡ false
told stream true e f = let m = marked_here stream e in let z : ◌≡◌ {A = ℕ} 0 1 = cc in absurd (omega arith)
told stream false e f = refl

unmarked_here : (stream : List ℕ) → any_marked (payloads_of stream) ≡ false → stands_at contents_end (take 0x10000 stream) 0 ≡ false
unmarked_here stream = told stream (stands_at contents_end (take 0x10000 stream) 0) refl

-- a film that is not refused has no payload that begins with the end marker
pub no_ends : (stream : List ℕ) → any_marked (payloads_of stream) ≡ false → NoEnd New stream
no_ends stream e zero = unmarked_here stream e
no_ends stream e (suc n) =
    let later : any_marked (payloads_of (drop 0x10000 stream)) ≡ false = sym (unmarked_more stream (unmarked_here stream e)) ∙ e in
    let k : 0x10000 + n * 0x10000 ≡ suc n * 0x10000 = omega arith in
    ap (λ (m : ℕ). is_end New (take 0x10000 (drop m stream))) (sym k) ∙ ap (λ (l : List ℕ). is_end New (take 0x10000 l)) (sym (drop-drop (n * 0x10000) 0x10000 stream))
    ∙ no_ends (drop 0x10000 stream) later n

abbrev ends : Bool → List ℕ
ends audio = bytes_of (in_each audio (λ stream. marker_of contents_end))

end_held : (audio : Bool) → is_end New (inside_of New (ends audio)) ≡ true
unfolding bytes_of block_of head_of same_bytes
end_held true = refl
end_held false = refl

-- the ends hold the end marker
pub ends_no_chunk : (audio : Bool) → NoChunk New (ends audio)
unfolding payload_in
ends_no_chunk audio track from =
    let payload = inside_of New (ends audio) in
    no_end payload (ltb 0x10000 (length payload)) (stands_at (chunk_of New track from payload) (ends audio) 0) (is_end New payload) (end_held audio)
