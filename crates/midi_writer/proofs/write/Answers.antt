-- The tests in their order, and then the head and the track, side by side.
use Rattle.std.proofs.Common.{arith, sym, ◌∙◌}
use Rattle.midi_writer.specs.Laws.Filed.{filed_many, filed_8, filed_9, filed_7, filed_0, track_size, track_least, track_most, fits}
use Rattle.midi_writer.proofs.write.Goals as goal

pub returns-in_default : goal.returns-in_default
returns-in_default c =
    let f = filed_many c.args.list _ c.in_default.ensures in
    record { part_after = f.0; size = f.1 }

pub returns-then-not-has_good_tempos : goal.returns-then-not-has_good_tempos
returns-then-not-has_good_tempos c =
    let x = c.in-Some.ensures in
    let f = filed_8 c.args.list _ x.0 _ x.1 (sym c.has_good_tempos.ensures ∙ c.if-not-has_good_tempos.true) in
    record { part_after = f.0; size = f.1 }

pub returns-in_default-file_size : goal.returns-in_default-file_size
returns-in_default-file_size c =
    let x = c.in-Some.ensures in
    let f = filed_9 c.args.list _ x.0 _ x.1 (sym c.has_good_tempos.ensures ∙ c.if-not-has_good_tempos.false) c.in_default-file_size.ensures in
    record { part_after = f.0; size = f.1 }

pub returns-then-part-size : goal.returns-then-part-size
returns-then-part-size c =
    let x = c.in-Some.ensures in
    let e = sym c.has_good_tempos.ensures ∙ c.if-not-has_good_tempos.false in
    let f = c.in-Some-file_size.ensures in
    let g = filed_7 c.args.list _ x.0 _ x.1 e _ f c.if-part-size.true in
    record { part_after = g.0; size = g.1 }

pub overflow_sub-size : goal.overflow_sub-size
overflow_sub-size c =
    let x = c.in-Some.ensures in
    let e = sym c.has_good_tempos.ensures ∙ c.if-not-has_good_tempos.false in
    let f = c.in-Some-file_size.ensures in
    omega (arith, track_size c.args.list c.args.part.now x.0 _ x.1 e _ f, track_least c.args.list c.args.part.now x.0 _ x.1 e _ f, track_most c.args.list c.args.part.now x.0 _ x.1 e _ f)

pub overflow_cast-size : goal.overflow_cast-size
overflow_cast-size c =
    let x = c.in-Some.ensures in
    let e = sym c.has_good_tempos.ensures ∙ c.if-not-has_good_tempos.false in
    let f = c.in-Some-file_size.ensures in
    omega (arith, track_size c.args.list c.args.part.now x.0 _ x.1 e _ f, track_least c.args.list c.args.part.now x.0 _ x.1 e _ f, track_most c.args.list c.args.part.now x.0 _ x.1 e _ f)

pub write_head-requires : goal.write_head-requires
write_head-requires c =
    let x = c.in-Some.ensures in
    let e = sym c.has_good_tempos.ensures ∙ c.if-not-has_good_tempos.false in
    let f = c.in-Some-file_size.ensures in
    omega (arith, track_size c.args.list c.args.part.now x.0 _ x.1 e _ f, track_least c.args.list c.args.part.now x.0 _ x.1 e _ f, track_most c.args.list c.args.part.now x.0 _ x.1 e _ f)

pub write_track-requires : goal.write_track-requires
write_track-requires c =
    let x = c.in-Some.ensures in
    let e = sym c.has_good_tempos.ensures ∙ c.if-not-has_good_tempos.false in
    let f = c.in-Some-file_size.ensures in
    fits c.args.list c.args.part.now x.0 _ x.1 e _ f _ _ c.if-part-size.false c.write_head.ensures

pub returns : goal.returns
returns c =
    let x = c.in-Some.ensures in
    let e = sym c.has_good_tempos.ensures ∙ c.if-not-has_good_tempos.false in
    let f = c.in-Some-file_size.ensures in
    let g = filed_0 c.args.list c.args.part.now x.0 _ x.1 e _ f _ _ c.if-part-size.false c.write_head.ensures c.write_track.ensures in
    record { part_after = g.0; size = g.1 }
