use Rattle.std.proofs.Common.{refl, ◌∙◌, arith, length-append}
use Rattle.mb_stream.specs.ReaderLaw.{told_by}
use Rattle.mb_smoke.proofs.SumLemmas.{midway-start, midway-step, midway-whole, midway-few}
use Rattle.mb_smoke.proofs.sum_out.read_piece.Goals as goal

pub events-init : goal.events-init
events-init c =
    record {
      offset = refl;
      along = λ bytes h. midway-start c.args.reader.now c.args.counts.now bytes c.args.piece.now h;
    }

pub next-requires : goal.next-requires
next-requires c =
    omega (
      arith,
      c.events.invariant.offset,
      (c.requires.1).reads.offset,
      c.requires.2,
      length-append c.requires.0 c.args.piece.now,
    )

pub count_seen-requires : goal.count_seen-requires
count_seen-requires c =
    midway-few c.events.reader c.events.counts c.requires.0 c.args.piece.now c.events.rest.now c.requires.2
    (c.events.invariant.along c.requires.0 c.requires.1)

pub events-preserved : goal.events-preserved
events-preserved c =
    record {
      offset = c.next.ensures.end ∙ c.events.invariant.offset;
      along = λ bytes h.
          midway-step c.events.reader c.next.new.self c.events.counts c.count_seen.new.counts bytes
          c.args.piece.now c.events.rest.now c.next.new.input.now (told_by c.in-Some.seen) c.in-Some.ensures.stands
          c.next.ensures.end c.count_seen.ensures (c.events.invariant.along bytes h);
    }

pub returns : goal.returns
returns c = λ bytes h.
    midway-whole c.events.reader c.next.new.self c.events.counts bytes c.args.piece.now c.events.rest.now
    c.next.new.input.now c.in_default.ensures.stands c.next.ensures.end c.in_default.ensures.all_told
    c.in_default.ensures.none (c.events.invariant.along bytes h)
