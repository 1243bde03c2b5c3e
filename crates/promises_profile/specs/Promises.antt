-- Request 14: "What §1 writes always passes." It is proved under the same name in proofs/Promises.antt.
use Rattle.std.specs.Prelude.{ℕ, ◌≡◌, List, take, Ok}
use Rattle.write_plan.specs.declared.Packing.{Packing}
use Rattle.write.specs.Writing.{Writing}
use Rattle.promises_write.specs.Promises.{CodecFits}
use Rattle.profile.specs.Profiles.{plain, profile_of}

-- whatever is written, the written bytes are a film that is plain
abbrev pub WrittenIsPlain : Type 0
WrittenIsPlain =
    (name video audio : List ℕ) (packing : Packing) (out out' : List ℕ) (size : ℕ)
    → CodecFits packing.mpeg_codec → CodecFits packing.audio_codec → Writing name video audio packing out (Ok size) out'
    → profile_of (take size out') ≡ Ok plain
