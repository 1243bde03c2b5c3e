-- The bits of a key that a film shows. Ours: request 13 decides by them, and this tells them.
use Rattle.std.specs.Prelude.{ℕ, Result, Ok, Err}
use Rattle.refusal.specs.declared.Refusal.{Refusal}
use Rattle.refusal.specs.Numbers.{number_of, beside_of}
use Rattle.film.specs.Films.{Film, film, refused}
use Rattle.clip.specs.Clips.{bits_shown}
use Rattle.key_shown.specs.declared.KeyBitsReply.{KeyBitsReply}
use Rattle.key_shown.specs.Shown.{shown_of}

-- those that a clip shows which shows as much
abbrev pub shown_bits : Film → ℕ
shown_bits f = bits_shown (shown_of f)

abbrev pub key_bits_in : Film → Result ℕ Refusal
key_bits_in (film header applied chunks) = Ok (shown_bits (film header applied chunks))
key_bits_in (refused refusal) = Err refusal

-- the answer as C reads it
abbrev pub key_bits_reply : Result ℕ Refusal → KeyBitsReply
key_bits_reply (Ok bits) = record { refused_at = 0; bits = bits; number = 0; unknown_type = 0 }
key_bits_reply (Err refusal) = record { refused_at = refusal.place; bits = 0; number = number_of refusal.cause; unknown_type = (beside_of refusal.cause).unknown_type }
