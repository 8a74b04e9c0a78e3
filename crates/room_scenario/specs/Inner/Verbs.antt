-- What the words for what happens to a box mean.
use Rattle.room_scenario.specs.declared.Action.TheVariants as action
use Rattle.room_scenario.specs.declared.verbs.Verb.{Verb}
use Rattle.room_scenario.specs.declared.verbs.Verb.TheVariants.{Plain, Tempo, Preview}
use Rattle.room_scenario.specs.Grammar.{plain, with_tempo}
use Rattle.room_scenario.specs.Grammar.{Verb as Grammar·Verb}

-- what happens to a box: where it has a tempo, that is read behind the box
abbrev pub verb_of : Verb → Grammar·Verb
verb_of (Plain a) = plain a
verb_of Tempo = with_tempo action.Tempo
verb_of Preview = with_tempo action.Preview
