use Rattle.std.proofs.Common.{◌≡◌, ◌∷◌, ◌∙◌, [], false, sym, ap, rules, arith}
use Rattle.std.proofs.lemmas.Bool.{false≢true}
use Rattle.mb_smf.specs.Smf.{is_faulted}
use Rattle.mb_smf.proofs.TakesLemmas.{takes-behind, takes-more}
use Rattle.mb_smf.proofs.RunLemmas.{lent-behind}
use Rattle.mb_smf.specs.SmfReading.{SmfState, SmfTakes, given_part}
use Rattle.mb_smf.proofs.reader.SmfReader.advance.Goals as goal

still : (c : goal.In_default-take) → is_faulted c.bytes.self.file.place ≡ false
still c = ap (λ (r : SmfState). is_faulted r.file.place) (sym c.self.view_is) ∙ (sym c.is_faulted.ensures ∙
    c.if-is_faulted.false)

pub bytes-preserved : goal.bytes-preserved
bytes-preserved c =
    let e : c.bytes.input.now ≡ c.in-Some.byte.now ∷ c.in-Some.rest.now = search (rules, c.in-Some.ensures.cases) in
    record {
      takes = takes-behind c.args.self.now c.bytes.self c.take.new.self c.args.input.now.now c.bytes.input.now
          c.in-Some.byte.now c.in-Some.rest.now []
          c.bytes.invariant.takes e (c.in_default-take.ensures.takes c.in-Some.rest.now);
      kept = λ h. absurd (false≢true (sym (still c) ∙ (c.bytes.invariant.kept h).0));
      nothing = search (rules, c.in_default-take.ensures.none);
      end = grind (arith, c.take.ensures.end, c.bytes.invariant.end);
      fewer = grind (arith, c.bytes.invariant.fewer);
    }

pub returns-in-Some-take-clause-takes : goal.returns-in-Some-take-clause-takes
returns-in-Some-take-clause-takes c =
    let e : c.bytes.input.now ≡ c.in-Some.byte.now ∷ c.in-Some.rest.now = search (rules, c.in-Some.ensures.cases) in
    takes-behind c.args.self.now c.bytes.self c.take.new.self c.args.input.now.now c.bytes.input.now c.in-Some.byte.now
    c.in-Some.rest.now (given_part c.in-Some-take.part)
    c.bytes.invariant.takes e (c.in-Some-take.ensures.takes c.in-Some.rest.now)

pub returns-then-room-gt0-clause-takes : goal.returns-then-room-gt0-clause-takes
returns-then-room-gt0-clause-takes c =
    takes-more c.args.self.now c.bytes.self c.lend.new.self c.args.input.now.now c.bytes.input.now c.lend.new.input.now
    (given_part c.lend.result)
    c.bytes.invariant.takes c.lend.ensures.takes

pub returns-in-Some-take-clause-lent : goal.returns-in-Some-take-clause-lent
returns-in-Some-take-clause-lent c = c.in-Some-take.ensures.lent c.args.input.now.now c.in-Some.rest.now

pub returns-then-room-gt0-clause-lent : goal.returns-then-room-gt0-clause-lent
returns-then-room-gt0-clause-lent c =
    let taken : SmfTakes c.args.self.now c.bytes.self c.args.input.now.now c.bytes.input.now [] =
    c.bytes.invariant.takes in
    lent-behind c.lend.result c.args.input.now.now taken.taken c.bytes.input.now c.lend.new.input.now taken.front
    c.lend.ensures.lent
