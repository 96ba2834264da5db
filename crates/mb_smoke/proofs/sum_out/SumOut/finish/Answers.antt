use Rattle.std.proofs.Common.{List, [], refl, sym, subst}
use Rattle.std.proofs.lemmas.List.{append-nil}
use Rattle.mb_message.specs.Signs.{Sign}
use Rattle.mb_denote.specs.Counted.{Counted}
use Rattle.mb_stream.specs.ReaderLaw.{told_by}
use Rattle.mb_smoke.proofs.SumLemmas.{stands-few, sum-ended}
use Rattle.mb_smoke.proofs.sum_out.SumOut.finish.Goals as goal

pub count_seen-requires : goal.count_seen-requires
count_seen-requires c = stands-few c.args.self.now c.requires.0 c.requires.1

pub returns-in-Some : goal.returns-in-Some
returns-in-Some c = λ bytes h.
    sum-ended c.args.self.now _ bytes (told_by c.in-Some.seen) c.in-Some.ensures.told c.count_seen.ensures refl h

pub returns-in_default : goal.returns-in_default
returns-in_default c = λ bytes h.
    sum-ended c.args.self.now _ bytes [] c.in_default.ensures.told
    (λ marks counted. subst (λ (ms : List Sign). Counted c.args.self.now.counts ms) (sym (append-nil marks)) counted)
    refl h
