-- What a writer stands for, and what its calls append.
use Rattle.std.proofs.Common.{◌≡◌, ℕ, Bool, true, false, List, [], ◌∷◌, ◌++◌, refl, sym, ap, subst, ◌∙◌}
use Rattle.mb_message.specs.Signs.{Sign, signs_of_event, suits_event, open_behind}
use Rattle.mb_message.specs.declared.event.Ev.{Ev}
use Rattle.mb_stream.specs.Appended.{Appended}
use Rattle.mb_stream.specs.Puts.{Put, Flush, signs_in, puts_at}
use Rattle.mb_stream.specs.Standing.{suited, is_open}
use Rattle.mb_stream.proofs.EventLemmas.{open_from-event}
use Rattle.mb_stream.proofs.StandingLemmas.{joined, is_open-append, open_from}
use Rattle.mb_stream.proofs.PutsLemmas.{signs_in-more, signs_in-flush}
use Rattle.mb_ble.specs.Written.{ble_live, ble_written}
use Rattle.mb_ble.specs.UnderWay.{OpenPacket, Holds, nothing, flushed_in, after_all, given_all}
use Rattle.mb_ble.specs.Writer.{Stands}
use Rattle.mb_ble.specs.Writer.{Writer}
use Rattle.mb_ble.proofs.Live.{all_hold, flush, finish, live_law}

pub stands-new : (w : Writer) (size : ℕ) → w.packet ≡ nothing size → w.in_sysex ≡ false → Stands w []
stands-new w size p o = record {
  each_suits = refl;
  open_now = o;
  holds = record { packet = p ∙ ap nothing (sym (ap (λ (q : OpenPacket). q.size) p)) };
}

pub stands-put : (old new : Writer) (moment : ℕ) (e : Ev) (puts : List Put) → suits_event old.in_sysex e ≡ true →
    new.in_sysex ≡ open_behind old.in_sysex e → new.packet ≡ after_all old.packet moment (signs_of_event e) →
    Stands old puts → Stands new (puts ++ puts_at moment (signs_of_event e))
stands-put old new moment e puts suits opened packet s =
    let more : signs_in (puts ++ puts_at moment (signs_of_event e)) ≡ signs_in puts ++ signs_of_event e =
    signs_in-more puts moment (signs_of_event e) in
    record {
      each_suits = ap suited more ∙ joined (signs_in puts) e s.each_suits (subst (λ (o : Bool). suits_event o e ≡ true)
          s.open_now suits);
      open_now =
          opened ∙ sym (open_from-event old.in_sysex e suits) ∙
          ap (λ (o : Bool). open_from o (signs_of_event e)) s.open_now ∙
          sym (is_open-append (signs_in puts) (signs_of_event e)) ∙ ap is_open (sym more);
      holds = subst (λ (p : OpenPacket). Holds p (puts ++ puts_at moment (signs_of_event e))) (sym packet)
          (all_hold old.packet puts moment (signs_of_event e) s.holds).0;
    }

pub live-more : (w : Writer) (moment : ℕ) (ms : List Sign) (puts : List Put) (old new : List ℕ) → new ≡ old ++
    given_all w.packet moment ms → Stands w puts →
    Appended old new (ble_live w.packet.size puts) (ble_live w.packet.size (puts ++ puts_at moment ms))
live-more w moment ms puts old new written s = record {
  wrote = given_all w.packet moment ms;
  grown = written;
  beyond =
      live_law w.packet.size (puts ++ puts_at moment ms)
      ∙ (all_hold w.packet puts moment ms s.holds).2
      ∙ ap (λ z. z ++ given_all w.packet moment ms) (sym (live_law w.packet.size puts));
}

pub stands-flush : (old new : Writer) (puts : List Put) → new.in_sysex ≡ old.in_sysex →
    new.packet ≡ nothing old.packet.size →
    Stands old puts → Stands new (puts ++ Flush ∷ [])
stands-flush old new puts opened packet s =
    let same : signs_in (puts ++ Flush ∷ []) ≡ signs_in puts = signs_in-flush puts in
    record {
      each_suits = ap suited same ∙ s.each_suits;
      open_now = opened ∙ s.open_now ∙ ap is_open (sym same);
      holds = subst (λ (p : OpenPacket). Holds p (puts ++ Flush ∷ [])) (sym packet) (flush old.packet puts s.holds).0;
    }

pub live-flush : (w : Writer) (puts : List Put) (old new : List ℕ) → new ≡ old ++ flushed_in w.packet → Stands w puts →
    Appended old new (ble_live w.packet.size puts) (ble_live w.packet.size (puts ++ Flush ∷ []))
live-flush w puts old new written s = record {
  wrote = flushed_in w.packet;
  grown = written;
  beyond =
      live_law w.packet.size (puts ++ Flush ∷ []) ∙ (flush w.packet puts s.holds).1
      ∙ ap (λ z. z ++ flushed_in w.packet) (sym (live_law w.packet.size puts));
}

pub written-rest : (w : Writer) (puts : List Put) (old new : List ℕ) → new ≡ old ++ flushed_in w.packet →
    Stands w puts →
    Appended old new (ble_live w.packet.size puts) (ble_written w.packet.size puts)
written-rest w puts old new written s = record {
  wrote = flushed_in w.packet;
  grown = written;
  beyond = finish w.packet puts s.holds ∙ ap (λ z. z ++ flushed_in w.packet) (sym (live_law w.packet.size puts));
}
