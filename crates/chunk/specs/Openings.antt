-- Rules C: what the opening of a chunk at c says. It has the 45 bytes that every chunk has.
use Rattle.std.specs.Prelude.{ℕ, ◌+◌, ◌%◌, ◌<◌, List, cond, eqb}
use Rattle.laws.specs.Lists.{at}
use Rattle.word.specs.Numbers.{be16, be32}
use Rattle.signature.specs.Signatures.{SFV, SFA, contents_end, stands_at}
use Rattle.chunk.specs.declared.Kind.{Kind}
use Rattle.chunk.specs.declared.Kind.TheVariants.{Video, Audio, Other, End}
use Rattle.chunk.specs.declared.Opening.{Opening}

-- what a container is made of
abbrev pub Bytes : List ℕ → Type 0
Bytes container = (i : ℕ) → at container i < 256

-- "`#CONTENTS END` at c + 0x20 marks an end chunk, skipped. `@SFV` payloads go to video, `@SFA` to audio"; "An end chunk has kind `end` under any letters"
unfoldable pub kind_at : List ℕ → ℕ → Kind
kind_at container c =
    cond (stands_at contents_end container (c + 0x20)) End
    (cond (eqb (be32 container c) SFV) Video
    (cond (eqb (be32 container c) SFA) Audio Other))

-- "Block size u32 at 4, header size u16 at 8, footer size u16 at 10, data type = byte 15 mod 4". "byte 12 of any kind" is the channel
unfoldable pub opening_at : List ℕ → ℕ → Opening
opening_at container c =
    record {
      kind = kind_at container c;
      block = be32 container (c + 4);
      header = be16 container (c + 8);
      footer = be16 container (c + 10);
      channel = at container (c + 12);
      data_type = at container (c + 15) % 4;
    }
