-- What is left of marks that stand well stands well, and is valid.
use Rattle.std.proofs.Common.{◌≡◌, ℕ, ◌+◌, Bool, true, false, not, ◌&&◌, if◌then◌else◌, List, [], ◌∷◌, ◌++◌}
use Rattle.std.proofs.Common.{Option, Some, None, IfSome, refl, sym, ap, subst}
use Rattle.std.proofs.lemmas.Bool.{false≢true}
use Rattle.mb_message.specs.Bytes.{is_data, is_short}
use Rattle.mb_message.specs.Signs.{Sign, ShortSign, RtSign, OpenSign, ByteSign, EndSign, AbortSign}
use Rattle.mb_stream.specs.Standing.{is_valid, AreValid, suited}
use Rattle.mb_stream.proofs.StandingLemmas.{both, Suited, Suited-from_suited, suited-from_Suited}
use Rattle.mb_filter.specs.declared.rule.Rule.{Rule}
use Rattle.mb_filter.specs.declared.rule.Action.{Action}
use Rattle.mb_filter.specs.declared.rule.Action.TheVariants as act
use Rattle.mb_filter.specs.Mapped.{if_short, on_channel, acted, decided, mapped_short}
use Rattle.mb_filter.specs.Mapped.{keeps_sysex, keeps_realtime, kept_if, as_mark, mapped_marks}
use Rattle.mb_filter.proofs.MappedLaw.{ShortOrNone, mapped_short-is, none-opened}

-- a short message, or none, stands where no SysEx is open
short-suits : (x : Option Sign) → ShortOrNone x → (o : Bool) (rest : List Sign) → o ≡ false → Suited false rest →
    Suited o (as_mark x ++ rest)
short-suits None is o rest e s = subst (λ (o : Bool). Suited o rest) (sym e) s
short-suits (Some (ShortSign d a b)) is o rest e s = (ap not e, s)
short-suits (Some (RtSign b)) is o rest e s = absurd is
short-suits (Some OpenSign) is o rest e s = absurd is
short-suits (Some (ByteSign b)) is o rest e s = absurd is
short-suits (Some EndSign) is o rest e s = absurd is
short-suits (Some AbortSign) is o rest e s = absurd is

rt-suits : (k : Bool) (b : ℕ) (o : Bool) (rest : List Sign) → Suited o rest → Suited o (kept_if k (RtSign b) ++ rest)
rt-suits true b o rest s = (refl, s)
rt-suits false b o rest s = s

open-suits : (k : Bool) (rest : List Sign) → Suited (k && true) rest → Suited (k && false) (kept_if k OpenSign ++ rest)
open-suits true rest s = (refl, s)
open-suits false rest s = s

byte-suits : (k : Bool) (b : ℕ) (rest : List Sign) → is_data b ≡ true → Suited (k && true) rest →
    Suited (k && true) (kept_if k (ByteSign b) ++ rest)
byte-suits true b rest h s = (h, s)
byte-suits false b rest h s = s

end-suits : (k : Bool) (rest : List Sign) → Suited (k && false) rest → Suited (k && true) (kept_if k EndSign ++ rest)
end-suits true rest s = (refl, s)
end-suits false rest s = s

abort-suits : (k : Bool) (rest : List Sign) → Suited (k && false) rest →
    Suited (k && true) (kept_if k AbortSign ++ rest)
abort-suits true rest s = (refl, s)
abort-suits false rest s = s

suits-mapped : (rules : List Rule) (o : Bool) (ms : List Sign) → Suited o ms →
    Suited (keeps_sysex rules && o) (mapped_marks rules ms)
suits-mapped rules o [] s = tt
suits-mapped rules false (ShortSign d a b ∷ ms) s =
    let closed : (keeps_sysex rules && false) ≡ false = none-opened (keeps_sysex rules) in
    short-suits (mapped_short rules d a b) (mapped_short-is rules d a b) (keeps_sysex rules && false)
    (mapped_marks rules ms) closed
    (subst (λ (o : Bool). Suited o (mapped_marks rules ms)) closed (suits-mapped rules false ms s.1))
suits-mapped rules true (ShortSign d a b ∷ ms) s = absurd (false≢true s.0)
suits-mapped rules o (RtSign b ∷ ms) s =
    rt-suits (keeps_realtime rules b) b (keeps_sysex rules && o) (mapped_marks rules ms) (suits-mapped rules o ms s.1)
suits-mapped rules false (OpenSign ∷ ms) s =
    open-suits (keeps_sysex rules) (mapped_marks rules ms) (suits-mapped rules true ms s.1)
suits-mapped rules true (OpenSign ∷ ms) s = absurd (false≢true s.0)
suits-mapped rules true (ByteSign b ∷ ms) s =
    byte-suits (keeps_sysex rules) b (mapped_marks rules ms) s.0 (suits-mapped rules true ms s.1)
suits-mapped rules false (ByteSign b ∷ ms) s = absurd (false≢true s.0)
suits-mapped rules true (EndSign ∷ ms) s =
    end-suits (keeps_sysex rules) (mapped_marks rules ms) (suits-mapped rules false ms s.1)
suits-mapped rules false (EndSign ∷ ms) s = absurd (false≢true s.0)
suits-mapped rules true (AbortSign ∷ ms) s =
    abort-suits (keeps_sysex rules) (mapped_marks rules ms) (suits-mapped rules false ms s.1)
suits-mapped rules false (AbortSign ∷ ms) s = absurd (false≢true s.0)

pub mapped-suits : (rules : List Rule) (ms : List Sign) → suited ms ≡ true → suited (mapped_marks rules ms) ≡ true
mapped-suits rules ms h =
    suited-from_Suited (mapped_marks rules ms)
    (subst (λ (o : Bool). Suited o (mapped_marks rules ms)) (none-opened (keeps_sysex rules))
    (suits-mapped rules false ms (Suited-from_suited ms h)))

-- validity

if_short-valid : (s a b : ℕ) → IfSome (if_short s a b) (λ m. is_valid m ≡ true)
if_short-valid s a b = by (is_short s a b) refl where
  by : (t : Bool) → is_short s a b ≡ t → IfSome (if t then Some (ShortSign s a b) else None) (λ m. is_valid m ≡ true)
  by true h = h
  by false h = tt

choice-valid : (t : Bool) (s a b : ℕ) → IfSome (if t then if_short s a b else None) (λ m. is_valid m ≡ true)
choice-valid true s a b = if_short-valid s a b
choice-valid false s a b = tt

acted-valid : (action : Action) (s a b : ℕ) → is_short s a b ≡ true →
    IfSome (acted action s a b) (λ m. is_valid m ≡ true)
acted-valid act.Keep s a b h = h
acted-valid act.Drop s a b h = tt
acted-valid (act.Channel n) s a b h = if_short-valid (on_channel s n) a b
acted-valid (act.Up n) s a b h = choice-valid _ s (a + n) b
acted-valid (act.Down n) s a b h = choice-valid _ s _ b

and-true : (a b : Bool) → a ≡ true → b ≡ true → (a && b) ≡ true
and-true true b h i = i
and-true false b h i = h

short-valid : (x : Option Sign) → IfSome x (λ m. is_valid m ≡ true) → (rest : List Sign) → AreValid rest →
    AreValid (as_mark x ++ rest)
short-valid None is rest h = h
short-valid (Some m) is rest h = and-true (is_valid m) _ is h

kept-valid : (k : Bool) (m : Sign) (rest : List Sign) → is_valid m ≡ true → AreValid rest →
    AreValid (kept_if k m ++ rest)
kept-valid true m rest is h = and-true (is_valid m) _ is h
kept-valid false m rest is h = h

pub mapped-valid : (rules : List Rule) (ms : List Sign) → AreValid ms → AreValid (mapped_marks rules ms)
mapped-valid rules [] h = refl
mapped-valid rules (ShortSign s a b ∷ ms) h =
    let each = both (is_short s a b) _ h in
    short-valid (mapped_short rules s a b)
    (acted-valid (decided rules s) s a b each.0) (mapped_marks rules ms)
    (mapped-valid rules ms each.1)
mapped-valid rules (RtSign b ∷ ms) h =
    let each = both (is_valid (RtSign b)) _ h in
    kept-valid (keeps_realtime rules b) (RtSign b) (mapped_marks rules ms) each.0 (mapped-valid rules ms each.1)
mapped-valid rules (OpenSign ∷ ms) h =
    kept-valid (keeps_sysex rules) OpenSign (mapped_marks rules ms) refl (mapped-valid rules ms h)
mapped-valid rules (ByteSign b ∷ ms) h =
    kept-valid (keeps_sysex rules) (ByteSign b) (mapped_marks rules ms) refl (mapped-valid rules ms h)
mapped-valid rules (EndSign ∷ ms) h =
    kept-valid (keeps_sysex rules) EndSign (mapped_marks rules ms) refl (mapped-valid rules ms h)
mapped-valid rules (AbortSign ∷ ms) h =
    kept-valid (keeps_sysex rules) AbortSign (mapped_marks rules ms) refl (mapped-valid rules ms h)
