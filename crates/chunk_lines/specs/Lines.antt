-- Rules C: the lines that the program prints. Bytes are ASCII.
use Rattle.std.specs.Prelude.{ℕ, List, [], ◌∷◌, ◌++◌, cond, length, ltb}
use Rattle.refusal.specs.declared.Cause.TheVariants.{TooLong}
use Rattle.refusal.specs.declared.Refusal.{Refusal}
use Rattle.refusal.specs.Numbers.{number_of}
use Rattle.reading.specs.declared.AudioChoice.TheVariants.{Chosen}
use Rattle.reading.specs.Choices.{as_original}
use Rattle.chunk.specs.declared.Kind.{Kind}
use Rattle.chunk.specs.declared.Kind.TheVariants.{Video, Audio, Other, End}
use Rattle.chunk.specs.declared.Chunk.{Chunk}
use Rattle.text.specs.Numbers.{decimal}
use Rattle.walk.specs.Walks.{joined}
use Rattle.film.specs.Films.{Film, film, refused, film_of}

-- one space; LF
abbrev pub space : List ℕ
space = 0x20 ∷ []

abbrev pub newline : List ℕ
newline = 0x0A ∷ []

-- a number, and what stands after it
unfoldable pub number_then : List ℕ → ℕ → List ℕ
number_then after n = decimal n ++ after

-- "kind (`video`, `audio`, `other`, `end`)", and a space
abbrev pub kind_word : Kind → List ℕ
kind_word Video = 0x76 ∷ 0x69 ∷ 0x64 ∷ 0x65 ∷ 0x6F ∷ space
kind_word Audio = 0x61 ∷ 0x75 ∷ 0x64 ∷ 0x69 ∷ 0x6F ∷ space
kind_word Other = 0x6F ∷ 0x74 ∷ 0x68 ∷ 0x65 ∷ 0x72 ∷ space
kind_word End = 0x65 ∷ 0x6E ∷ 0x64 ∷ space

-- "one line per chunk", "as start, kind .., type, length", "a fifth field; byte 12 of any kind"
unfoldable pub line_of : Chunk → List ℕ
line_of chunk =
    number_then space chunk.start ++ kind_word chunk.kind ++ number_then space chunk.data_type ++ number_then space chunk.len ++ number_then newline chunk.channel

abbrev pub lines_of : List Chunk → List ℕ
lines_of = joined line_of

-- `refused ` and `at `
abbrev pub refused_word : List ℕ
refused_word = 0x72 ∷ 0x65 ∷ 0x66 ∷ 0x75 ∷ 0x73 ∷ 0x65 ∷ 0x64 ∷ space

abbrev pub at_word : List ℕ
at_word = 0x61 ∷ 0x74 ∷ space

-- "`refused N at P`". The type beside 8 is not printed
unfoldable pub refusal_line : Refusal → List ℕ
refusal_line refusal = refused_word ++ number_then space (number_of refusal.cause) ++ at_word ++ number_then newline refusal.place

-- "prints one line per chunk, or only `refused N at P`"
abbrev pub film_text : Film → List ℕ
film_text (film header applied chunks) = lines_of chunks
film_text (refused refusal) = refusal_line refusal

-- "A program reads a container of at most 16,384 bytes from standard input (longer: 11), with audio chosen"
unfoldable pub text_of : List ℕ → List ℕ
text_of container =
    cond (ltb 16384 (length container)) (refusal_line (record { cause = TooLong; place = 0 }))
    (film_text (film_of container (as_original Chosen)))
