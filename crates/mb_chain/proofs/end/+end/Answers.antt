use Rattle.std.proofs.Common.{rules, ◌∙◌, refl, arith, ◌+◌}
use Rattle.std.proofs.lemmas.Result.{on_ok_weaker, on_err_weaker}
use Rattle.mb_carrier.specs.Port.{WriterStands}
use Rattle.mb_chain.proofs.FlowLemmas.{fed-links, halted-links, may-links}
use Rattle.mb_chain.proofs.EndLemmas.{closing, last-may, rest-may, end-may, put-small, last-small, end-halted_last}
use Rattle.mb_chain.proofs.EndLemmas.{end-halted_rest, end-halted_behind, end-ended, first-end, first-ended}
use Rattle.mb_chain.proofs.EndLemmas.{first-end_halted, may_end-links, ended-links, end_halted-links}
use Rattle.mb_chain.proofs.end.+end.Goals as goal

pub overflow_add-hop : goal.overflow_add-hop
overflow_add-hop g t c = omega (
  arith,
  c.len.ensures.value,
  put-small _ _ _
      (WriterStands c.put_last-at.new.writer) _ _ c.put_last-at.ensures.put
      (first-end _ _ _ c.in-Some.ensures.cases.0 c.requires.stands),
)

pub flow-requires-clause-stands : goal.flow-requires-clause-stands
flow-requires-clause-stands g t c = may-links _ _ _ _ _ _ refl c.as_slice.ensures.value
    (last-may _ _ _ (WriterStands c.put_last-at.new.writer) _ _ c.put_last-at.ensures.put
    (first-end _ _ _ c.in-Some.ensures.cases.0 c.requires.stands))

pub returns-in-Err-clause-halted : goal.returns-in-Err-clause-halted
returns-in-Err-clause-halted g t c =
    first-end_halted _ _ _ _ c.in-Some.ensures.cases.0
    (end-halted_last _ _ _ (WriterStands c.put_last-at.new.writer) _ _ _ c.put_last-at.ensures.put
    (halted-links _ _ _ _ _ _ _ refl c.as_slice.ensures.value c.in-Err.ensures.halted))

pub overflow_add-hop-2 : goal.overflow_add-hop-2
overflow_add-hop-2 g t c =
    omega (
      arith,
      c.len.ensures.value,
      c.len-2.ensures.value,
      last-small _ _ _ _ _ _ (closing _ _ _
          (WriterStands c.put_last-at.new.writer) _ _ _ _ c.put_last-at.ensures.writes c.put_last-at.ensures.put
          c.new-rest.ensures c.finish.ensures.written)
          (first-end _ _ _ c.in-Some.ensures.cases.0 c.requires.stands),
    )

pub flow-requires-2-clause-stands : goal.flow-requires-2-clause-stands
flow-requires-2-clause-stands g t c =
    may-links _ _ _ _ _ _ c.flow.ensures.links c.as_slice-2.ensures.value
    (rest-may _ _ _ _ _ _ _ _ (closing _ _ _
    (WriterStands c.put_last-at.new.writer) _ _ _ _ c.put_last-at.ensures.writes c.put_last-at.ensures.put
    c.new-rest.ensures c.finish.ensures.written)
    (fed-links _ _ _ _ _ _ _ _ refl c.as_slice.ensures.value c.in_default-flow.ensures.fed)
    (first-end _ _ _ c.in-Some.ensures.cases.0 c.requires.stands))

pub returns-in-Err-flow-clause-halted : goal.returns-in-Err-flow-clause-halted
returns-in-Err-flow-clause-halted g t c =
    first-end_halted _ _ _ _ c.in-Some.ensures.cases.0
    (end-halted_rest _ _ _ _ _ _ _ _ _ _ (λ x y. g.met.K.Out.both _ _ _ x y)
    (closing _ _ _ (WriterStands c.put_last-at.new.writer) _ _ _ _ c.put_last-at.ensures.writes
    c.put_last-at.ensures.put c.new-rest.ensures c.finish.ensures.written)
    (fed-links _ _ _ _ _ _ _ _ refl c.as_slice.ensures.value c.in_default-flow.ensures.fed)
    (halted-links _ _ _ _ _ _ _ c.flow.ensures.links c.as_slice-2.ensures.value c.in-Err-flow.ensures.halted))

pub end-requires : goal.end-requires
end-requires g t c κs within =
    let stands =
    end-may _ _ _ _ _ _ _ _ _ _ (closing _ _ _
    (WriterStands c.put_last-at.new.writer) _ _ _ _ c.put_last-at.ensures.writes c.put_last-at.ensures.put
    c.new-rest.ensures c.finish.ensures.written)
    (fed-links _ _ _ _ _ _ _ _ refl c.as_slice.ensures.value c.in_default-flow.ensures.fed)
    (fed-links _ _ _ _ _ _ _ _ c.flow.ensures.links c.as_slice-2.ensures.value c.in_default-flow-2.ensures.fed)
    (first-end _ _ _ c.in-Some.ensures.cases.0 c.requires.stands) in (
      search rules,
      (
        within,
        (
          c.flow-2.ensures.ready,
          may_end-links _ _ _ (c.flow-2.ensures.links
              ∙ c.flow.ensures.links) stands,
        ),
      ),
    )

pub returns-clause-ended : goal.returns-clause-ended
returns-clause-ended g t c =
    on_ok_weaker _
    (λ ended. first-ended _ _ _ _ _ c.in-Some.ensures.cases.0
    (end-ended _ _ (record {
      reader = c.put_last-at.new.reader;
      writer = c.finish.new.self;
      last =
          c.in-Some.hop.now.last;
      wrote = c.in-Some.hop.now.wrote + c.len.result + c.len-2.result;
    }) _ _ _ _ _ _ _ _ _ _ _
    (λ x y z a b d. g.met.K.Out.both _ _ _ _ _ a (g.met.K.Out.both _ _ _ _ _ b d))
    c.put_last-at.ensures.reads (c.finish.ensures.spec ∙ c.put_last-at.ensures.writes)
    (omega (arith, c.len.ensures.value, c.len-2.ensures.value))
    (closing _ _ _ (WriterStands c.put_last-at.new.writer) _ _ _ _ c.put_last-at.ensures.writes
    c.put_last-at.ensures.put c.new-rest.ensures c.finish.ensures.written)
    (fed-links _ _ _ _ _ _ _ _ refl c.as_slice.ensures.value c.in_default-flow.ensures.fed)
    (fed-links _ _ _ _ _ _ _ _ c.flow.ensures.links c.as_slice-2.ensures.value c.in_default-flow-2.ensures.fed)
    (ended-links _ _ _ _ _ (c.flow-2.ensures.links ∙ c.flow.ensures.links) ended)))
    c.end.ensures.ended

pub returns-clause-halted : goal.returns-clause-halted
returns-clause-halted g t c =
    on_err_weaker _
    (λ halted. first-end_halted _ _ _ _ c.in-Some.ensures.cases.0
    (end-halted_behind _ _ _ _ _ _ _ _ _ _ _ _
    (λ x y z a b d. g.met.K.Out.both _ _ _ _ _ a (g.met.K.Out.both _ _ _ _ _ b d))
    (closing _ _ _ (WriterStands c.put_last-at.new.writer) _ _ _ _ c.put_last-at.ensures.writes
    c.put_last-at.ensures.put c.new-rest.ensures c.finish.ensures.written)
    (fed-links _ _ _ _ _ _ _ _ refl c.as_slice.ensures.value c.in_default-flow.ensures.fed)
    (fed-links _ _ _ _ _ _ _ _ c.flow.ensures.links c.as_slice-2.ensures.value c.in_default-flow-2.ensures.fed)
    (end_halted-links _ _ _ _ (c.flow-2.ensures.links ∙ c.flow.ensures.links) halted)))
    c.end.ensures.halted
