-- How a bad line is said.
use Rattle.std.specs.Prelude.{ℕ, List, ◌++◌, codes, decimal}
use Rattle.room_scenario.specs.declared.fault.Fault.{Fault}
use Rattle.room_scenario.specs.declared.fault.Fault.TheVariants.{UnknownStatement, NumberMissing, NotANumber, NumberTooLarge, NumberTooSmall, BoxMissing, NotABox, NoSuchBox, BoxThereAlready, UnexpectedWord, TooManyEvents, SecondEnd, EndMissing}
use Rattle.room_scenario.specs.declared.fault.BadLine.{BadLine}

abbrev pub fault_text : Fault → List ℕ
fault_text UnknownStatement = codes "unknown statement"
fault_text NumberMissing = codes "a number is missing"
fault_text NotANumber = codes "not a number"
fault_text NumberTooLarge = codes "a number is too large"
fault_text NumberTooSmall = codes "a number is too small"
fault_text BoxMissing = codes "a box is missing"
fault_text NotABox = codes "not a box"
fault_text NoSuchBox = codes "no such box"
fault_text BoxThereAlready = codes "the box is there already"
fault_text UnexpectedWord = codes "unexpected word"
fault_text TooManyEvents = codes "too many events"
fault_text SecondEnd = codes "a second end"
fault_text EndMissing = codes "the end is missing"

abbrev pub bad_line_text : BadLine → List ℕ
bad_line_text b = codes "line " ++ (decimal b.line ++ (codes ": " ++ fault_text b.fault))
