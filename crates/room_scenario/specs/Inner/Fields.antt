-- What the private functions of the reader say of words and lines.
use Rattle.std.specs.Prelude.{◌≡◌, Result}
use Rattle.room_scenario.specs.declared.fault.Fault.{Fault}
use Rattle.room_scenario.specs.declared.draft.Draft.{Draft}
use Rattle.room_scenario.specs.Grammar.{Line, fine}
use Rattle.room_scenario.specs.Fields.{read_then, script}

-- a word says what `one` reads of it
abbrev pub WordSays : {A B : Type 0} → (B → A) → ((A → Line) → Line) → Result B Fault → Type 0
WordSays {A} {B} meaning one said = (go : A → Line) → read_then said (λ v. go (meaning v)) ≡ one go

-- the script after a line, or its fault
abbrev pub line_of : Result Draft Fault → Line
line_of r = read_then r (λ d. fine (script d))
