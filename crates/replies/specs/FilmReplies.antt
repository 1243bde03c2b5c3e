-- The reply on a film, field by field. Ours, beyond the rules, as TableReplies are.
use Rattle.std.specs.Prelude.{ℕ, Bool, true, false, Option, Some, None, Result, Ok, Err}
use Rattle.refusal.specs.declared.Refusal.{Refusal}
use Rattle.refusal.specs.Numbers.{number_of, beside_of}
use Rattle.film_name.specs.declared.Name.{Name}
use Rattle.codec.specs.Numbers.{presence_of, value_of, video_number, audio_number}
use Rattle.extract.specs.declared.Contents.{Contents}
use Rattle.replies.specs.declared.FilmReply.{FilmReply}

abbrev pub bit_of : Bool → ℕ
bit_of true = 1
bit_of false = 0

-- "the name as a part of the container or of the fallback name": which of the two, and which part of it
abbrev pub name_source : Option Name → ℕ
name_source (Some part) = 0
name_source None = 1

abbrev pub name_start : Option Name → ℕ
name_start (Some part) = part.start
name_start None = 0

abbrev pub name_length : ℕ → Option Name → ℕ
name_length fallback (Some part) = part.len
name_length fallback None = fallback

-- "Success returns the name .., whether there is audio, `mpeg_codec` and `audio_codec` (each may be absent), the kinds .., and both sizes."
abbrev pub contents_reply : ℕ → Contents → FilmReply
contents_reply fallback c = record {
  refused_at = 0;
  name_start = name_start c.name;
  name_length = name_length fallback c.name;
  video_size = c.video_size;
  audio_size = c.audio_size;
  video_codec = value_of c.mpeg_codec;
  audio_codec = value_of c.audio_codec;
  number = 0;
  unknown_type = 0;
  name_source = name_source c.name;
  has_audio = bit_of c.audio;
  has_video_codec = presence_of c.mpeg_codec;
  has_audio_codec = presence_of c.audio_codec;
  video_kind = video_number c.video_kind;
  audio_kind = audio_number c.audio_kind;
}

-- refused, all is 0 but the number, the place, "the type" beside 8 and "both sizes needed" beside 12
abbrev pub film_reply : ℕ → Result Contents Refusal → FilmReply
film_reply fallback (Ok contents) = contents_reply fallback contents
film_reply fallback (Err refusal) = record {
  refused_at = refusal.place;
  name_start = 0;
  name_length = 0;
  video_size = (beside_of refusal.cause).video_size;
  audio_size = (beside_of refusal.cause).audio_size;
  video_codec = 0;
  audio_codec = 0;
  number = number_of refusal.cause;
  unknown_type = (beside_of refusal.cause).unknown_type;
  name_source = 0;
  has_audio = 0;
  has_video_codec = 0;
  has_audio_codec = 0;
  video_kind = 0;
  audio_kind = 0;
}
