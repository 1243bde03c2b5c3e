-- Rules C: "`@SFA` to audio if present and chosen". request 2: "audio choice becomes none, all joined as the Rust does, or one channel". request 4: "Add a second
-- reading mode, beside the Rust's". request 5: "Add a table mode"; "The Rust's mode stays".
use Rattle.std.specs.Prelude.{ℕ, Bool, true, false, cond, eqb}
use Rattle.reading.specs.declared.AudioChoice.{AudioChoice}
use Rattle.reading.specs.declared.AudioChoice.TheVariants.{NotChosen, Chosen, Channel}
use Rattle.reading.specs.declared.PayloadMode.{PayloadMode}
use Rattle.reading.specs.declared.PayloadMode.TheVariants as payloads
use Rattle.reading.specs.declared.TableMode.{TableMode}
use Rattle.reading.specs.declared.TableMode.TheVariants as tables
use Rattle.reading.specs.declared.Reading.{Reading}
use Rattle.reading.specs.declared.Applied.{Applied}
use Rattle.reading.specs.declared.ReadingBytes.{ReadingBytes}

-- "none, all joined as the Rust does, or one channel": whether audio of a channel is taken
abbrev pub takes_channel : AudioChoice → ℕ → Bool
takes_channel NotChosen channel = false
takes_channel Chosen channel = true
takes_channel (Channel chosen) channel = eqb channel chosen

-- "Requests below read in the Rust's modes unless they say otherwise"
abbrev pub as_original : AudioChoice → Reading
as_original choice = record { audio = choice; payloads = payloads.Original; tables = tables.Original }

-- what C asks for, ours: 0 chooses no audio and 2 one channel; 1 is the mode of payloads after their headers, and that of zero columns
abbrev pub choice_by : ℕ → ℕ → AudioChoice
choice_by number channel = cond (eqb number 0) NotChosen (cond (eqb number 2) (Channel channel) Chosen)

abbrev pub payloads_by : ℕ → PayloadMode
payloads_by number = cond (eqb number 1) payloads.AfterHeader payloads.Original

abbrev pub mode_by : ℕ → TableMode
mode_by number = cond (eqb number 1) tables.ZeroColumns tables.Original

abbrev pub reading_by : ReadingBytes → Reading
reading_by asked = record { audio = choice_by asked.audio asked.channel; payloads = payloads_by asked.payloads; tables = mode_by asked.tables }

-- "if present": where a film has no audio, none is chosen
abbrev pub applied_to : Bool → Reading → Applied
applied_to present reading = record { audio = cond present reading.audio NotChosen; payloads = reading.payloads }
