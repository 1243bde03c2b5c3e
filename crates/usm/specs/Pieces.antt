-- A film written piece by piece through C. Ours, beyond the rules.
use Rattle.std.specs.Prelude.{ℕ, ◌≡◌, List, [], ◌∷◌, ◌++◌, Bool, cond, length, take, Ok}
use Rattle.signature.specs.Signatures.{contents_end, stands_at}
use Rattle.word.specs.Bytes.{zeros}
use Rattle.unmasking.specs.Unmasking.{mask_by}
use Rattle.lent.specs.declared.SizeReply.{SizeReply}
use Rattle.lent.specs.Written.{written_in, size_reply}
use Rattle.write_plan.specs.declared.Packing.{Packing}
use Rattle.write_plan.specs.Films.{bytes_of, header_blocks, audio_in}
use Rattle.write_plan.specs.Sizes.{header_size, size_in}
use Rattle.write_plan.specs.Planning.{sized_of, headed_by}
use Rattle.write.specs.Writing.{ends_of}
use Rattle.write_pieces.specs.declared.TurnReply.{TurnReply}
use Rattle.write_pieces.specs.Storing.{stored_by, asked_of}
use Rattle.write_pieces.specs.TurnReplies.{TurnWriting}
use Rattle.write_pieces.specs.Writers.{payload_by}
use Rattle.usm.specs.declared.writing.PackingBytes.{PackingBytes}
use Rattle.usm.specs.Writes.{packing_by, WrittenAs}

-- the header
abbrev pub HeaderFor : List ℕ → ℕ → ℕ → Packing → List ℕ → SizeReply → List ℕ → Type 0
HeaderFor name video audio packing out =
    WrittenAs (written_in (length out) (headed_by (header_size (length name) packing) (sized_of (length name) video (size_in packing audio) packing)))
    (bytes_of (header_blocks name packing)) out

-- a payload, by the number of its mask
abbrev pub StoredFor : ℕ → ℕ → List ℕ → SizeReply → List ℕ → Type 0
StoredFor key mask payload r payload' =
    (r ≡ size_reply (asked_of payload)) × (payload' ≡ cond (stands_at contents_end payload 0) payload (stored_by key (mask_by mask) payload))

-- the ends
abbrev pub EndsFor : Bool → List ℕ → SizeReply → List ℕ → Type 0
EndsFor audio out = WrittenAs (written_in (length out) (Ok (length (ends_of audio)))) (ends_of audio) out

-- ---- who writes a film so

-- the calls of a turn: the head's output before and after `usm_write_chunk`, and its reply; the payload after `usm_write_payload`, and its reply
pub record Calls : Type 0 where
  pub out : List ℕ
  pub out' : List ℕ
  pub chunk : TurnReply
  pub stored : List ℕ
  pub reply : SizeReply

abbrev pub AskedFor : PackingBytes → List ℕ → List ℕ → ℕ → Calls → Type 0
AskedFor asked video audio turn calls = TurnWriting (length video) (length audio) turn (packing_by asked) calls.out calls.chunk calls.out'

-- a turn that has a payload; neither call is refused
abbrev pub WentFor : PackingBytes → List ℕ → List ℕ → ℕ → Calls → Type 0
WentFor asked video audio turn calls =
    AskedFor asked video audio turn calls
    × (calls.chunk.found ≡ 1)
    × (calls.chunk.head.number ≡ 0)
    × StoredFor asked.key.number calls.chunk.mask (payload_by video (audio_in (packing_by asked) audio) calls.chunk) calls.reply calls.stored
    × (calls.reply.number ≡ 0)

-- turn after turn from one on, up to a last that has none
abbrev pub WentOnFor : PackingBytes → List ℕ → List ℕ → Calls → ℕ → List Calls → Type 0
WentOnFor asked video audio last turn [] = AskedFor asked video audio turn last × (last.chunk.found ≡ 0)
WentOnFor asked video audio last turn (calls ∷ others) = WentFor asked video audio turn calls × WentOnFor asked video audio last calls.chunk.next others

-- what is put for it: as many bytes of the head as were written, the payload, as many zeros as the reply says
abbrev pub put_for : Calls → List ℕ
put_for calls = take calls.chunk.head.size calls.out' ++ (calls.stored ++ zeros calls.chunk.padding)
