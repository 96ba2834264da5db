use Rattle.std.proofs.Common.{◌≡◌, [], ◌∷◌, ◌++◌, false, None, sym, subst, rules}
use Rattle.mb_message.specs.Signs.{Sign, sign_of}
use Rattle.mb_stream.specs.Puts.{At}
use Rattle.mb_smf.specs.TrackWriting.{TrackWriting, TrackWrites, gap_behind, is_full, put_behind}
use Rattle.mb_smf.proofs.WritesLemmas.{writes-put}
use Rattle.mb_smf.proofs.WritingLemmas.{in-time}
use Rattle.mb_smf.proofs.writer.SmfWriter.put.Goals as goal

pub returns-clause-cause : goal.returns-clause-cause
returns-clause-cause c = λ puts h.
    let s : Sign = sign_of c.args.mark in
    let none : gap_behind c.args.self.now.last c.args.moment ≡ None = search rules in
    let short : is_full (put_behind c.args.self.now c.args.moment s) ≡ false = search rules in
    in-time c.args.self.now puts c.args.moment s h.spells none short

pub returns-clause-writes : goal.returns-clause-writes
returns-clause-writes c = λ puts h.
    let s : Sign = sign_of c.args.mark in
    subst (λ (z : TrackWriting). TrackWrites z (puts ++ At c.args.moment s ∷ [])) (sym c.in_default-write.ensures)
    (writes-put c.args.self.now c.args.moment c.args.mark puts h c.requires.suits c.requires.order
    c.ranges.moment.fits (returns-clause-cause c puts h).0 (returns-clause-cause c puts h).1)
