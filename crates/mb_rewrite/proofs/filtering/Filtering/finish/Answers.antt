use Rattle.std.proofs.Common.{◌≡◌, ◌++◌, List, ℕ, refl, sym, ap, ◌∙◌, subst}
use Rattle.std.proofs.lemmas.Result.{on_err_weaker, on_ok_weaker}
use Rattle.mb_frames.specs.Gathering.{written_piece}
use Rattle.mb_rewrite.specs.Filtered.{filtered_tape}
use Rattle.mb_rewrite.specs.Filtering.{FilterHasTold, FilteringStands, filtering_rules, filtering_spec}
use Rattle.mb_rewrite.specs.declared.filtering.Filtering.{Filtering}
use Rattle.mb_rewrite.proofs.EndLemmas.{ended-all, halted-end, halted-last}
use Rattle.mb_rewrite.proofs.FilterLemmas.{before_of, end-front, ends-as, has-told}
use Rattle.mb_rewrite.proofs.filtering.Filtering.finish.Goals as goal

pub hear_end-requires-clause-stands : goal.hear_end-requires-clause-stands
hear_end-requires-clause-stands g c = (
  c.requires.stands.0,
  has-told c.args.self.now c.begin.new.self c.begin.ensures.same.0 c.begin.ensures.same.1 c.requires.stands.0
      c.requires.stands.1,
)

pub returns-in-Err-clause-halted : goal.returns-in-Err-clause-halted
returns-in-Err-clause-halted g c =
    let begun : Filtering
    = record { track = c.args.self.now.track; mapper = c.args.self.now.mapper; line = c.begin.new.self } in
    let told : (bytes : List ℕ) → FilteringStands c.args.self.now bytes → FilterHasTold begun bytes
    = has-told c.args.self.now c.begin.new.self c.begin.ensures.same.0 c.begin.ensures.same.1 in
    halted-end (before_of c.args.self.now) c.begin.new.self c.begin.new.held.items
    (λ x. g.K.Out.took c.args.out.now x c.hear_end.new.out) (c.in-Err.ensures.err).more
    (filtered_tape (filtering_rules c.args.self.now) (filtering_spec c.args.self.now))
    (record {
      writer = c.begin.ensures.same.0;
      gather = c.begin.ensures.same.1;
      held_is = c.begin.ensures.written;
    }) (c.in-Err.ensures.err).halted
    (λ bytes st. end-front begun bytes c.begin.new.held.items
    (λ x. g.K.Out.took c.args.out.now x c.hear_end.new.out) (told bytes st) c.in-Err.ensures.err)

pub returns-clause-ended : goal.returns-clause-ended
returns-clause-ended g c =
    let begun : Filtering
    = record { track = c.args.self.now.track; mapper = c.args.self.now.mapper; line = c.begin.new.self } in
    let told : (bytes : List ℕ) → FilteringStands c.args.self.now bytes → FilterHasTold begun bytes
    = has-told c.args.self.now c.begin.new.self c.begin.ensures.same.0 c.begin.ensures.same.1 in
    let heard = c.in_default.ensures.ok in
    on_ok_weaker c.end.result
    (λ took. ended-all (before_of c.args.self.now) c.begin.new.self c.hear_end.new.self.line c.begin.new.held.items
    c.hear_end.new.held.items
    (written_piece c.hear_end.new.self.line.gather.moment c.hear_end.new.self.line.gather.bytes)
    (λ x. g.K.Out.took c.args.out.now x c.hear_end.new.out) (λ x. g.K.Out.took c.hear_end.new.out x c.end.new.out)
    (λ x. g.K.Out.took c.args.out.now x c.end.new.out) heard.more
    (filtered_tape (filtering_rules c.args.self.now) (filtering_spec c.args.self.now))
    (λ x y. g.met.K.Out.both _ _ _ x y)
    (record {
      writer = c.begin.ensures.same.0;
      gather = c.begin.ensures.same.1;
      held_is = c.begin.ensures.written;
    }) heard.wrote refl
    (λ bytes st. ends-as begun c.hear_end.new.self bytes c.begin.new.held.items c.hear_end.new.held.items
    (λ x. g.K.Out.took c.args.out.now x c.hear_end.new.out) (told bytes st) heard) took)
    c.end.ensures.ok

pub returns-clause-halted : goal.returns-clause-halted
returns-clause-halted g c =
    let begun : Filtering
    = record { track = c.args.self.now.track; mapper = c.args.self.now.mapper; line = c.begin.new.self } in
    let told : (bytes : List ℕ) → FilteringStands c.args.self.now bytes → FilterHasTold begun bytes
    = has-told c.args.self.now c.begin.new.self c.begin.ensures.same.0 c.begin.ensures.same.1 in
    let heard = c.in_default.ensures.ok in
    on_err_weaker c.end.result
    (λ front. halted-last (before_of c.args.self.now) c.begin.new.self c.hear_end.new.self.line
    c.begin.new.held.items c.hear_end.new.held.items
    (written_piece c.hear_end.new.self.line.gather.moment c.hear_end.new.self.line.gather.bytes)
    (λ x. g.K.Out.took c.args.out.now x c.hear_end.new.out) (λ x. g.K.Out.took c.hear_end.new.out x c.end.new.out)
    (λ x. g.K.Out.took c.args.out.now x c.end.new.out) heard.more
    (filtered_tape (filtering_rules c.args.self.now) (filtering_spec c.args.self.now))
    (λ x y. g.met.K.Out.both _ _ _ x y)
    (record {
      writer = c.begin.ensures.same.0;
      gather = c.begin.ensures.same.1;
      held_is = c.begin.ensures.written;
    }) heard.wrote refl
    (λ bytes st. ends-as begun c.hear_end.new.self bytes c.begin.new.held.items c.hear_end.new.held.items
    (λ x. g.K.Out.took c.args.out.now x c.hear_end.new.out) (told bytes st) heard) front)
    c.end.ensures.err
