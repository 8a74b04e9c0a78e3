use Rattle.std.proofs.Common.{◌≡◌, ◌^◌, ◌<◌, true, drop}
use Rattle.text.specs.Digits.{all_digits, followed, value}
use Rattle.room_scenario.proofs.numbers.value.Given as goal

abbrev pub invariant-loop-byte : goal.invariant-loop-byte
invariant-loop-byte l =
    (l.number < 10 ^ l.byte-index) × (all_digits (drop l.byte-index l.word) ≡ true) × (followed l.number (drop l.byte-index l.word) ≡ value l.word)
