use Rattle.std.proofs.Common.{refl, arith}
use Rattle.mb_top.proofs.SelftestLemmas.{told-whole, told-front}
use Rattle.mb_top.proofs.stream.tell_selftest.Goals as goal

pub returns-in-Done-clause-ran : goal.returns-in-Done-clause-ran
returns-in-Done-clause-ran g c = λ tells limit.
    told-whole c.args.start c.args.count limit _ _ _ refl
    ((c.in-Done.ensures.done refl).contents_are tells)

pub returns-in-WriteFault-clause-ran : goal.returns-in-WriteFault-clause-ran
returns-in-WriteFault-clause-ran g c = λ tells limit.
    let part = c.in-WriteFault.ensures.part refl in
    told-front c.args.start c.args.count limit _ part.0 _ _ refl part.1 (part.2.contents_are tells)

pub returns-in-WriteFault-clause-faults : goal.returns-in-WriteFault-clause-faults
returns-in-WriteFault-clause-faults g c =
    let ensures = c.in-WriteFault.ensures in
    record {
      reads_later = omega (arith, ensures.read_faults);
      writes_later = ensures.later;
      read = λ e. cc;
      write = λ e. ensures.cause refl;
      unread = λ other quiet. ensures.read_faults;
      unwritten = λ other. absurd (other refl);
    }
