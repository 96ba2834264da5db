use Rattle.std.proofs.Common.{ℕ, rules, ◌∙◌, refl, ap, subst, arith, Some}
use Rattle.std.proofs.lemmas.Result.{on_err_weaker}
use Rattle.mb_carrier.specs.Fill.{HasMoment}
use Rattle.mb_carrier.specs.Port.{reader_moment, ReaderStands, WriterStands}
use Rattle.mb_chain.specs.Row.{last_after}
use Rattle.mb_chain.proofs.FlowLemmas.{driving-start, driving-step, driving-halted, driving-may, driving-small}
use Rattle.mb_chain.proofs.FlowLemmas.{driving-left, driving-fed, left-moment, way-goes, fed-links, halted-links}
use Rattle.mb_chain.proofs.FlowLemmas.{may-links, none-halted, no_links, apart-by, first-may, first-fed, first-halted}
use Rattle.mb_chain.proofs.flow.+flow.Goals as goal

pub returns-in_default-clause-halted : goal.returns-in_default-clause-halted
returns-in_default-clause-halted g t c = on_err_weaker _
    (λ front. none-halted _ _ _ _ _ (no_links _ c.in_default.ensures.cases) front) c.take.ensures.front

pub buffers-init : goal.buffers-init
buffers-init g t c =
    record {
      reads = refl;
      writes = refl;
      last = refl;
      links = refl;
      ready = c.requires.ready;
      sound = refl;
      moment = c.new.ensures.moment;
      driving = driving-start _ _ _ _ _ c.new.result _ _ refl c.new.ensures.moment c.new.ensures.ev c.new.ensures.rest
          (g.met.K.Out.nothing c.args.out.now);
    }

pub overflow_add-hop : goal.overflow_add-hop
overflow_add-hop g t c =
    omega (
      arith,
      c.len.ensures.value,
      driving-small _ _ _ _ _ _ _ _ _ _ _ _ c.args.moment _ _ _ _ _ _ _
          (way-goes _ _ _ _ (reader_moment c.buffers.hop.reader) _ (ReaderStands c.buffers.hop.reader) _
          (WriterStands c.buffers.hop.writer) _ _ _ _
          (Some c.in-Some-left.piece) _ _ _ c.buffers.invariant.reads c.buffers.invariant.writes c.new-held.ensures
          c.moment-at.ensures c.fill_hop-left.ensures.goes_on)
          (driving-left _ _ _ _ _ _ _ _ _ _ _ _ _ _ c.in-Some-left.is c.buffers.invariant.driving)
          (first-may _ _ _ _ _ c.in-Some.ensures.cases.0 c.requires.stands),
    )

pub flow-requires : goal.flow-requires
flow-requires g t c κs within =
    let stands =
    may-links _ _ _ _ _ _ c.buffers.invariant.links c.as_slice.ensures.value
    (driving-may _ _ _ _ _ _ _ _ _ _ _ _ c.args.moment _ _ _ _ _ _ _ (apart-by _ _ c.is_empty-apart.ensures)
    (way-goes _ _ _ _ (reader_moment c.buffers.hop.reader) _ (ReaderStands c.buffers.hop.reader) _
    (WriterStands c.buffers.hop.writer) _ _ _ _
    (Some c.in-Some-left.piece) _ _ _ c.buffers.invariant.reads c.buffers.invariant.writes c.new-held.ensures
    c.moment-at.ensures c.fill_hop-left.ensures.goes_on)
    (driving-left _ _ _ _ _ _ _ _ _ _ _ _ _ _ c.in-Some-left.is c.buffers.invariant.driving)
    (first-may _ _ _ _ _ c.in-Some.ensures.cases.0 c.requires.stands)) in
    (search rules, (within, (c.buffers.invariant.ready, stands)))

pub returns-in-Err-clause-halted : goal.returns-in-Err-clause-halted
returns-in-Err-clause-halted g t c =
    first-halted _ _ _ _ _ _ c.in-Some.ensures.cases.0
    (driving-halted _ _ _ _ _ _ _ _ _ _ _ _ _ _ _ _ _ _ _ _ _ _ (λ x y. g.met.K.Out.both _ _ _ x y)
    (apart-by _ _ c.is_empty-apart.ensures)
    (way-goes _ _ _ _ (reader_moment c.buffers.hop.reader) _ (ReaderStands c.buffers.hop.reader) _
    (WriterStands c.buffers.hop.writer) _ _ _ _
    (Some c.in-Some-left.piece) _ _ _ c.buffers.invariant.reads c.buffers.invariant.writes c.new-held.ensures
    c.moment-at.ensures c.fill_hop-left.ensures.goes_on)
    (driving-left _ _ _ _ _ _ _ _ _ _ _ _ _ _ c.in-Some-left.is c.buffers.invariant.driving)
    (halted-links _ _ _ _ _ _ _ c.buffers.invariant.links c.as_slice.ensures.value c.in-Err.ensures.halted))

pub buffers-preserved : goal.buffers-preserved
buffers-preserved g t c =
    record {
      reads = c.fill_hop-left.ensures.reads ∙ c.buffers.invariant.reads;
      writes = c.fill_hop-left.ensures.writes ∙ c.buffers.invariant.writes;
      last = c.buffers.invariant.last;
      links = c.flow.ensures.links ∙ c.buffers.invariant.links;
      ready = c.flow.ensures.ready;
      sound = c.in_default-flow.ensures.sound ∙ c.buffers.invariant.sound;
      moment = subst (λ (k : ℕ). HasMoment k c.fill_hop-left.result)
          (left-moment _ _ _ c.in-Some-left.is c.buffers.invariant.moment) c.fill_hop-left.ensures.moment;
      driving =
          driving-step _ _ _ _ _ _ _ _ _ _ _ _ _ _ _ _ _ _ _ _ _ _ _ _ _ (λ x y. g.met.K.Out.both _ _ _ x y)
          (apart-by _ _ c.is_empty-apart.ensures)
          (way-goes _ _ _ _ (reader_moment c.buffers.hop.reader) _ (ReaderStands c.buffers.hop.reader) _
          (WriterStands c.buffers.hop.writer) _ _ _ _
          (Some c.in-Some-left.piece) _ _ _ c.buffers.invariant.reads c.buffers.invariant.writes c.new-held.ensures
          c.moment-at.ensures c.fill_hop-left.ensures.goes_on)
          (omega (arith, c.len.ensures.value)) c.fill_hop-left.ensures.offset
          (driving-left _ _ _ _ _ _ _ _ _ _ _ _ _ _ c.in-Some-left.is c.buffers.invariant.driving)
          (fed-links _ _ _ _ _ _ _ _ c.buffers.invariant.links c.as_slice.ensures.value c.in_default-flow.ensures.fed);
    }

pub returns-clause-fed : goal.returns-clause-fed
returns-clause-fed g t c =
    first-fed _ _ _ _ _ _ _ c.in-Some.ensures.cases.0
    (driving-fed _ _ _ _ _ _ _ _ _ (search rules) c.buffers.invariant.reads c.buffers.invariant.writes
    (c.moment_of_last-hop.ensures ∙ ap
    (λ k. last_after k c.args.moment c.args.bytes.now) c.buffers.invariant.last) c.buffers.invariant.driving)
