-- Every definition, opened by one name: `unfolding everything` lets a closed statement compute.
use Rattle.std.specs.Prelude.{ℕ}
use Rattle.big_endian.specs.Bytes.{bytes, number, number_at}
use Rattle.big_endian.specs.Written.{written}
use Rattle.midi_file.specs.Layout.{vlq, event, events, end_of_track, track, head, file}
use Rattle.midi_file.specs.Refusal.{good_tempo, good_tempos, good_origin, good_origins, refusal}
use Rattle.midi_file.specs.Reading.{spelled, quantity_size, quantity, has_event, event_tempo, after_event, is_end, change, and_first, read_events, has_header, has_track_head, has_head, read_file}
use Rattle.midi_file.specs.Answers.{list_refusal, filed, filed_size, list_of, read_answer}

unfoldable pub everything : ℕ
unfolding bytes number number_at written vlq event events end_of_track track head file good_tempo good_tempos good_origin good_origins refusal spelled quantity_size quantity has_event event_tempo after_event is_end change and_first read_events has_header has_track_head has_head read_file list_refusal filed filed_size list_of read_answer
everything = 0
