-- `chunks_print::print` is safe and ends: by the promise `TextFits` the whole text is in the 65,536 bytes. Assumes nothing.
use mathlib.Core.Path.{◌≡◌, ap, ◌∙◌}
use mathlib.Core.List.{List}
use Prim.Native.Nat.{ℕ, ◌≤◌}
use native.Mathlib.Omega.{arith}
use lib.ListN.{length, length-take}
use lib.Seq.{sets, length-sets}
use Rattle.chunk.specs.Openings.{Bytes}
use Rattle.chunk_lines.specs.Lines.{text_of}
use Rattle.chunk_lines.proofs.Promises.{TextFits}
use Rattle.chunks_print.proofs.print.Goals as goal

-- a text that is put into 65,536 bytes is there whole
whole : (container out after : List ℕ) (n : ℕ) → Bytes container → 65536 ≡ length out → (n ≡ length (text_of container)) × (after ≡ sets out 0 (text_of container)) → n ≤ length after
whole container out after n bytes e h = omega (arith, TextFits container bytes, ap length h.1 ∙ length-sets out 0 (text_of container))

pub slice_bounds-text-end : goal.slice_bounds-text-end
slice_bounds-text-end c =
    whole _ _ _ _ (λ (i : ℕ). omega (arith, c.shared_slice_known-1.given i)) c.large_buffer-text.ensures c.lines-length.ensures

pub slice_bounds-write_all-end : goal.slice_bounds-write_all-end
slice_bounds-write_all-end c =
    let h = whole _ _ _ _ (λ (i : ℕ). omega (arith, c.shared_slice_known-1.given i)) c.large_buffer-text.ensures c.lines-length.ensures in
    simp length-take (omega arith)
