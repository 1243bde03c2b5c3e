-- Rules H: where the tables of a header stand. s begins with the header; audio says whether step 3 found audio.
use Rattle.std.specs.Prelude.{ℕ, ◌+◌, List, Bool, cond, eqb, Option, Some, None, Result, Ok, Err}
use Rattle.header.specs.declared.Header.{Header}
use Rattle.refusal.specs.declared.Refusal.{Refusal}
use Rattle.word.specs.Numbers.{be32}
use Rattle.signature.specs.Signatures.{SFA}
use Rattle.refusal.specs.Numbers.{number_of, beside_of}
use Rattle.header_tables.specs.declared.HeaderTables.{HeaderTables}
use Rattle.header_tables.specs.declared.TablesReply.{TablesReply}

-- "A block starts with four letters and a u32 size; the next stands at start + 8 + size."
unfoldable pub next_after : List ℕ → ℕ → ℕ
next_after s p = p + 8 + be32 s (p + 4)

-- 2. "`@SFV`, table", after the block at 0
abbrev pub video_block : List ℕ → ℕ
video_block s = next_after s 0

-- 3. "If `@SFA` is next: table"
abbrev pub audio_block : List ℕ → ℕ
audio_block s = next_after s (video_block s)

-- 4. "`@SFV` with `#HEADER END`."
abbrev pub video_end : List ℕ → Bool → ℕ
video_end s audio = cond audio (next_after s (audio_block s)) (audio_block s)

-- 5. "With audio: `@SFA` with `#HEADER END`." 6. "`@SFV`, table."
abbrev pub metadata_block : List ℕ → Bool → ℕ
metadata_block s audio = cond audio (next_after s (next_after s (video_end s audio))) (next_after s (video_end s audio))

-- "Its table or marker stands at start + 0x20". 7. "With audio and `@SFA` next: table"
unfoldable pub last_table : List ℕ → ℕ → ℕ
last_table s p = cond (eqb (be32 s p) SFA) (p + 0x20) 0

unfoldable pub tables_in : List ℕ → Bool → HeaderTables
tables_in s audio =
    record {
      name = 0x20;
      video = video_block s + 0x20;
      audio = cond audio (audio_block s + 0x20) 0;
      video_metadata = metadata_block s audio + 0x20;
      audio_metadata = cond audio (last_table s (next_after s (metadata_block s audio))) 0;
    }

-- the reply, as C reads it
abbrev pub no_tables : ℕ → ℕ → ℕ → ℕ → TablesReply
no_tables at number unknown-type more =
    record { refused_at = at; tables = record { name = 0; video = 0; audio = 0; video_metadata = 0; audio_metadata = 0 }; number = number; unknown_type = unknown-type; more = more }

abbrev pub reply_on : List ℕ → Result Header Refusal → TablesReply
reply_on s (Ok header) = record { refused_at = 0; tables = tables_in s header.audio; number = 0; unknown_type = 0; more = 0 }
reply_on s (Err refusal) = no_tables refusal.place (number_of refusal.cause) (beside_of refusal.cause).unknown_type 0

abbrev pub tables_reply : List ℕ → Option (Result Header Refusal) → TablesReply
tables_reply s None = no_tables 0 0 0 1
tables_reply s (Some header) = reply_on s header
