-- What only private functions' contracts cite: what they find in front of a list.
use Rattle.std.specs.Prelude.{ℕ, ◌+◌, cond, List, ltb, Option, Some, None}
use Rattle.midi_file.specs.Reading.{quantity_size, quantity, has_event, event_tempo}
use Rattle.midi_reader.specs.declared.vlq.Quantity.{Quantity}
use Rattle.midi_reader.specs.declared.reading.TempoEvent.{TempoEvent}

-- the quantity in front of l
unfoldable pub quantity_found : List ℕ → Option Quantity
quantity_found l = cond (ltb 0 (quantity_size l)) (Some (record { value = quantity l; size = quantity_size l })) None

-- the tempo event in front of a track's rest
unfoldable pub event_found : List ℕ → Option TempoEvent
event_found l = cond (has_event l) (Some (record { delta = quantity l; tempo = event_tempo l; size = quantity_size l + 6 })) None
