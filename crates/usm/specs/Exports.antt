-- A film through C: what is replied, and both outputs after it. Ours, beyond the rules.
use Rattle.std.specs.Prelude.{ℕ, ◌≡◌, List, length, Option}
use Rattle.reading.specs.declared.Reading.{Reading}
use Rattle.extract.specs.Extraction.{extracted_of, Extraction}
use Rattle.replies.specs.declared.FilmReply.{FilmReply}
use Rattle.replies.specs.FilmReplies.{film_reply}

-- the answer of an extraction, replied, and both outputs after it: so whatever is promised of an extraction holds for C. Only the name's length takes the fallback
abbrev pub FilmReplied : List ℕ → Reading → Option ℕ → List ℕ → List ℕ → List ℕ → FilmReply → List ℕ → List ℕ → Type 0
FilmReplied container reading key fallback video audio r video' audio' =
    (r ≡ film_reply (length fallback) (extracted_of container reading video audio))
    × Extraction container reading key video audio (extracted_of container reading video audio) video' audio'
