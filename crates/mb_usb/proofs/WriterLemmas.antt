-- What a writer stands for, and what its calls append.
use Rattle.std.proofs.Common.{◌≡◌, ℕ, Bool, true, List, [], ◌++◌, sym, ap, subst, ◌∙◌}
use Rattle.mb_message.specs.Signs.{Sign, AbortSign, signs_of_event, suits_event, open_behind}
use Rattle.mb_message.specs.declared.event.Ev.{Ev}
use Rattle.mb_stream.specs.Appended.{Appended}
use Rattle.mb_stream.proofs.EventLemmas.{open_from-event}
use Rattle.mb_stream.proofs.StandingLemmas.{joined, is_open-append, open_from}
use Rattle.mb_usb.specs.Running.{usb_at, usb_from, pending_from}
use Rattle.mb_usb.specs.Writer.{Writer, Stands}
use Rattle.mb_usb.specs.Written.{usb_live, usb_written}
use Rattle.mb_usb.proofs.RunningLemmas.{usb_from-append, pending_from-append}
use Rattle.mb_usb.proofs.UsbLaw as law

pub Stands-put : (old new : Writer) (e : Ev) (ms : List Sign) → suits_event old.in_sysex e ≡ true →
    new.in_sysex ≡ open_behind old.in_sysex e → new.pending ≡ pending_from old.pending (signs_of_event e) →
    Stands old ms → Stands new (ms ++ signs_of_event e)
Stands-put old new e ms suits opened pending s = record {
  each_suits = joined ms e s.each_suits (subst (λ (o : Bool). suits_event o e ≡ true) s.open_now suits);
  open_now =
      opened ∙ sym (open_from-event old.in_sysex e suits) ∙
      ap (λ (o : Bool). open_from o (signs_of_event e)) s.open_now ∙ sym (is_open-append ms (signs_of_event e));
  left =
      pending ∙ ap (λ (p : List ℕ). pending_from p (signs_of_event e)) s.left ∙
      sym (pending_from-append [] ms (signs_of_event e));
}

-- what an event appends
pub usb_live-more : (w : Writer) (e : Ev) (ms : List Sign) (old new : List ℕ) → suits_event w.in_sysex e ≡ true →
    new ≡ old ++ usb_from w.cable w.pending (signs_of_event e) → Stands w ms →
    Appended old new (usb_live w.cable ms) (usb_live w.cable (ms ++ signs_of_event e))
usb_live-more w e ms old new suits written s =
    let longer = joined ms e s.each_suits (subst (λ (o : Bool). suits_event o e ≡ true) s.open_now suits) in
    record {
      wrote = usb_from w.cable w.pending (signs_of_event e);
      grown = written;
      beyond =
          law.live w.cable (ms ++ signs_of_event e) longer ∙ usb_from-append w.cable [] ms (signs_of_event e) ∙
          ap (λ (p : List ℕ). usb_from w.cable [] ms ++ usb_from w.cable p (signs_of_event e)) (sym s.left) ∙
          ap (λ (xs : List ℕ). xs ++ usb_from w.cable w.pending (signs_of_event e))
          (sym (law.live w.cable ms s.each_suits));
    }

-- what the finish appends
pub usb_written-rest : (w : Writer) (ms : List Sign) (old new : List ℕ) → new ≡ old ++
    usb_at w.cable w.pending AbortSign → Stands w ms →
    Appended old new (usb_live w.cable ms) (usb_written w.cable ms)
usb_written-rest w ms old new written s = record {
  wrote = usb_at w.cable w.pending AbortSign;
  grown = written;
  beyond =
      law.rest w.cable ms s.each_suits ∙
      ap (λ (p : List ℕ). usb_live w.cable ms ++ usb_at w.cable p AbortSign) (sym s.left);
}
