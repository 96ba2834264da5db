use Rattle.std.proofs.Common.{ℕ, List, refl, ◌∙◌, subst}
use Rattle.std.proofs.lemmas.Result.{on_ok_weaker, on_err_weaker}
use Rattle.mb_carrier.proofs.ListLemmas.{Fronted, listing-start, listing-step, listing-halted, listing-fed}
use Rattle.mb_carrier.proofs.ListLemmas.{listing-last_halted, noted-more}
use Rattle.mb_carrier.proofs.list_steps.list_piece.Goals as goal

pub events-init : goal.events-init
events-init g c =
    record {
      reads = refl;
      offset = refl;
      ready = c.requires.ready;
      sound = refl;
      listing = listing-start _ _ _ _ _ _ _ (g.met.R.EventReader.stays c.args.reader.now) c.new-held.ensures
          (g.met.K.Out.nothing c.args.out.now);
    }

pub returns-in-Err-clause-halted : goal.returns-in-Err-clause-halted
returns-in-Err-clause-halted g c =
    listing-halted _ _ _ _ _ _ _ _ _ _ _ _ _ _ _ _ _
    (λ x. g.K.Out.took c.args.out.now x c.list_seen.new.out) c.in-Some.seen (λ x y. g.met.K.Out.both _ _ _ x y)
    c.events.invariant.reads c.moment-moment.ensures
    (noted-more _ _ _ c.is_note.ensures) c.events.invariant.listing c.in-Some.ensures.goes c.in-Err.ensures.err

pub events-preserved : goal.events-preserved
events-preserved g c =
    record {
      reads = c.next.ensures.spec ∙ c.events.invariant.reads;
      offset = c.next.ensures.end ∙ c.events.invariant.offset;
      ready = c.list_seen.ensures.ready;
      sound = c.in_default-list_seen.ensures.sound ∙ c.events.invariant.sound;
      listing = listing-step _ _ _ _ _ _ _ _ _ _ _ _ _ _ _ _ _ _ _ c.in-Some.seen (λ x y. g.met.K.Out.both _ _ _ x y)
          c.events.invariant.reads c.moment-moment.ensures
          (noted-more _ _ _ c.is_note.ensures) c.events.invariant.listing c.in-Some.ensures.goes
          c.in_default-list_seen.ensures.ok;
    }

pub returns-clause-fed : goal.returns-clause-fed
returns-clause-fed g c =
    on_ok_weaker _
    (λ took. listing-fed _ _ _ _ _ _ _ _ _ _ _ _ _ _ _ _
    (λ x y. g.met.K.Out.both _ _ _ x y) c.events.invariant.reads c.events.invariant.listing
    c.in_default.ensures.goes c.in_default.ensures.all_told c.in_default.ensures.none
    (subst (λ (piece : List ℕ). g.K.Out.took c.events.out piece c.take.new.self) c.as_slice.ensures.value took))
    c.take.ensures.took

pub returns-clause-halted : goal.returns-clause-halted
returns-clause-halted g c =
    on_err_weaker _
    (λ front. listing-last_halted _ c.args.traced _ _ _ _ _ _ _ _ _ _
    (λ x y. g.met.K.Out.both _ _ _ x y) c.events.invariant.listing
    (subst (λ (piece : List ℕ). Fronted
    (λ x. g.K.Out.took c.events.out x c.take.new.self) piece) c.as_slice.ensures.value front))
    c.take.ensures.front
