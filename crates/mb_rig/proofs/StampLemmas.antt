-- The stamps of an out, against the moments of passing of the report's lines.
use Rattle.std.proofs.Common.{◌≡◌, ℕ, ◌<◌, ◌≤◌, Bool, true, false, List, [], ◌∷◌, map, refl, ap, sym, subst, ◌∙◌, arith}
use Rattle.std.specs.Prelude.{if◌then◌else◌, filter}
use Rattle.std.specs.List.{list_all}
use Rattle.mb_message.specs.Signs.{Sign, ShortSign, RtSign, OpenSign, ByteSign, EndSign, AbortSign}
use Rattle.mb_stream.specs.Puts.{Put, At, Flush, signs_in}
use Rattle.mb_stream.specs.Standing.{AreValid, is_valid, suited}
use Rattle.mb_ble.specs.Distances.{IsRising, KeepStamps, message_moments}
use Rattle.mb_ble.specs.Written.{ble_written}
use Rattle.mb_ble.proofs.DistanceLemmas as law
use Rattle.mb_carrier.specs.Carrier.{written}
use Rattle.mb_carrier.specs.Conversion.{none_set}
use Rattle.mb_carrier.specs.MessageMoments.{HasStamps, moments_read}
use Rattle.mb_carrier.specs.declared.spec.Spec.{Spec}
use Rattle.mb_carrier.specs.declared.spec.Spec.TheVariants.{Din, Usb, Fire, Ble}
use Rattle.mb_carrier.proofs.RisingHops.{ble-read}
use Rattle.mb_merge.specs.Links.{Merger}
use Rattle.mb_rig.specs.RigText.{Setup}
use Rattle.mb_rig.specs.Bay.{marks_put}
use Rattle.mb_rig.specs.Merging.Lines.{Key, arrival_of}
use Rattle.mb_rig.specs.Merging.Report.{goes, moments_to}
use Rattle.mb_rig.specs.Merging.Playing.{PassedTag, Play, RisesFrom, report_of}
use Rattle.mb_rig.specs.Merging.Ended.{put_of, puts_to}
use Rattle.mb_rig.specs.Merging.Course.{Course, Links}
use Rattle.mb_rig.proofs.BayLemmas.{put-signs}
use Rattle.mb_rig.proofs.Merging.OutsHeard.{course-suits}
use Rattle.mb_rig.proofs.Merging.PassesTold.{course-moments}

moments-marks : (puts : List Put) → message_moments puts ≡ message_moments (marks_put puts)
moments-marks [] = refl
moments-marks (Flush ∷ puts) = moments-marks puts
moments-marks (At moment (ShortSign s d1 d2) ∷ puts) = ap (λ (ms : List ℕ). moment ∷ ms) (moments-marks puts)
moments-marks (At moment (RtSign b) ∷ puts) = ap (λ (ms : List ℕ). moment ∷ ms) (moments-marks puts)
moments-marks (At moment OpenSign ∷ puts) = moments-marks puts
moments-marks (At moment (ByteSign b) ∷ puts) = moments-marks puts
moments-marks (At moment EndSign ∷ puts) = ap (λ (ms : List ℕ). moment ∷ ms) (moments-marks puts)
moments-marks (At moment AbortSign ∷ puts) = moments-marks puts

rising-marks : (last : ℕ) (puts : List Put) → IsRising last (marks_put puts) → IsRising last puts
rising-marks last [] rising = rising
rising-marks last (Flush ∷ puts) rising = rising-marks last puts rising
rising-marks last (At moment sign ∷ puts) rising = (rising.0, rising-marks moment puts rising.1)

rising-lower : (low last : ℕ) (puts : List Put) → low ≤ last → IsRising last puts → IsRising low puts
rising-lower low last [] le rising = tt
rising-lower low last (Flush ∷ puts) le rising = rising-lower low last puts le rising
rising-lower low last (At moment sign ∷ puts) le rising = (
  let here : last ≤ moment = rising.0 in omega (arith, le, here),
  rising.1,
)

rising-to : (routes : List (ℕ × ℕ)) (out last most : ℕ) (xs : List PassedTag) → RisesFrom last xs most →
    IsRising last (puts_to routes out xs)
rising-to routes out last most [] rises = tt
rising-to routes out last most (x ∷ xs) rises =
    by_test (goes routes x.tag.source out) refl (rising-to routes out x.moment most xs rises.1)
  where
    by_test : (c : Bool) → goes routes x.tag.source out ≡ c → IsRising x.moment (puts_to routes out xs) →
        IsRising last (puts_to routes out (x ∷ xs))
    by_test true e rest = subst (λ (c : Bool). IsRising last (map put_of (if c
        then x ∷ filter (λ (y : PassedTag). goes routes y.tag.source out) xs
        else filter (λ (y : PassedTag). goes routes y.tag.source out) xs))) (sym e) (rises.0, rest)
    by_test false e rest = subst (λ (c : Bool). IsRising last (map put_of (if c
        then x ∷ filter (λ (y : PassedTag). goes routes y.tag.source out) xs
        else filter (λ (y : PassedTag). goes routes y.tag.source out) xs))) (sym e)
        (rising-lower last x.moment (puts_to routes out xs) rises.0 rest)

written-stamps : (spec : Spec) (puts : List Put) → HasStamps spec → suited (signs_in puts) ≡ true →
    AreValid (signs_in puts) → IsRising 0 puts →
    KeepStamps (message_moments puts) (moments_read spec (written spec puts))
written-stamps Din puts has suits valid rising = absurd has
written-stamps (Usb cable) puts has suits valid rising = absurd has
written-stamps (Fire port) puts has suits valid rising = absurd has
written-stamps (Ble size) puts has suits valid rising =
    subst (λ (ps : List Put). KeepStamps (message_moments puts) (message_moments ps))
    (sym (ble-read size none_set (ble_written size puts))) (law.stamps size puts suits valid rising)

pub out-stamps : (s : Setup) (m : Merger) (links : Links) (K : Key) (play : Play) (out : ℕ) (spec : Spec)
    (puts : List Put) (bytes : List ℕ) → Course s m links K play → out < 16 → HasStamps spec →
    marks_put puts ≡ puts_to s.routes out play.passed → bytes ≡ written spec puts →
    KeepStamps (moments_to s.routes out (report_of play.passed)) (moments_read spec bytes)
out-stamps s m links K play out spec puts bytes course low has are is =
    subst (λ (ms : List ℕ). KeepStamps ms (moments_read spec bytes))
    (moments-marks puts ∙ (ap message_moments are ∙ course-moments s m links K play out course))
    (subst (λ (bs : List ℕ). KeepStamps (message_moments puts) (moments_read spec bs)) (sym is)
    (written-stamps spec puts has (ap suited same ∙ fits.0) (ap (list_all is_valid) same ∙ fits.1)
    (rising-marks 0 puts (subst (IsRising 0) (sym are)
    (rising-to s.routes out 0 (arrival_of K) play.passed course.rises)))))
  where
    same : signs_in puts ≡ signs_in (puts_to s.routes out play.passed)
    same = sym (put-signs puts) ∙ ap signs_in are

    fits : (suited (signs_in (puts_to s.routes out play.passed)) ≡ true)
        × AreValid (signs_in (puts_to s.routes out play.passed))
    fits = course-suits s m links K play out course low
