-- Events behind rules, mark by mark.
use Rattle.std.proofs.Common.{◌≡◌, ℕ, Bool, true, false, if◌then◌else◌, List, [], ◌∷◌, ◌++◌, map, flat_map, Option}
use Rattle.std.proofs.Common.{Some, None, refl, sym, ◌∙◌, ap}
use Rattle.std.specs.Prelude.{IfSome}
use Rattle.mb_message.specs.Signs.{Sign, ByteSign, signs_of_event}
use Rattle.mb_message.specs.declared.event.Ev.{Ev}
use Rattle.mb_message.specs.declared.event.Ev.TheVariants as event
use Rattle.mb_message.specs.declared.short.Short.{Short}
use Rattle.mb_filter.specs.declared.rule.Rule.{Rule}
use Rattle.mb_filter.specs.Mapped.{as_mark, kept_if, keeps_sysex, mapped_marks}
use Rattle.mb_filter.specs.Mapper.{IsLeft, kept, short_event, short_sign}

pub kept-short : (o : Option Short) (m : Option Sign) → short_sign o ≡ m → kept (short_event o) ≡ as_mark m ++ []
kept-short None m e = ap (λ z. as_mark z ++ []) e
kept-short (Some s) m e = ap (λ z. as_mark z ++ []) e

-- an event of one mark
pub kept-one : (k : Bool) (e : Ev) (m : Sign) → signs_of_event e ≡ m ∷ [] →
    kept (if k then Some e else None) ≡ kept_if k m ++ []
kept-one true e m is = is
kept-one false e m is = refl

kept-bytes : (k : Bool) (bs : List ℕ) → flat_map (λ m. kept_if k m) (map ByteSign bs) ≡
    (if k then map ByteSign bs else [])
kept-bytes true [] = refl
kept-bytes false [] = refl
kept-bytes true (b ∷ bs) = ap (λ z. ByteSign b ∷ z) (kept-bytes true bs)
kept-bytes false (b ∷ bs) = kept-bytes false bs

bytes-mapped : (rules : List Rule) (bs : List ℕ) →
    mapped_marks rules (map ByteSign bs) ≡ flat_map (λ m. kept_if (keeps_sysex rules) m) (map ByteSign bs)
bytes-mapped rules [] = refl
bytes-mapped rules (b ∷ bs) = ap (λ z. kept_if (keeps_sysex rules) (ByteSign b) ++ z) (bytes-mapped rules bs)

kept-either : (k : Bool) (e : Ev) → kept (if k then Some e else None) ≡ (if k then signs_of_event e else [])
kept-either true e = refl
kept-either false e = refl

pub kept-run : (rules : List Rule) (e : Ev) (bs : List ℕ) → signs_of_event e ≡ map ByteSign bs →
    kept (if keeps_sysex rules then Some e else None) ≡ mapped_marks rules (signs_of_event e)
kept-run rules e bs is =
    kept-either (keeps_sysex rules) e ∙
    (ap (λ z. if keeps_sysex rules then z else []) is ∙
    (sym (kept-bytes (keeps_sysex rules) bs) ∙ (sym (bytes-mapped rules bs) ∙ ap (mapped_marks rules) (sym is))))

-- a short message stands for a short message
pub left-short : (o : Option Short) (s : Short) → IfSome (short_event o) (λ left. IsLeft (event.Short s) left)
left-short None s = tt
left-short (Some t) s = (t, refl)
