-- Behind the Note Offs nothing sounds.
use Rattle.std.proofs.Common.{◌≡◌, ℕ, zero, suc, ◌+◌, ◌<◌, ◌≤◌, Bool, true, false, cond, not, ◌&&◌, ◌||◌, ◌==◌, nat_lt}
use Rattle.std.proofs.Common.{if◌then◌else◌, List, [], ◌∷◌, ◌++◌, map, flat_map, refl, sym, ◌∙◌, ap, subst, arith}
use Rattle.std.proofs.lemmas.Bool.Decides.{nat_tests}
use Rattle.std.proofs.lemmas.Grind.{flat_map-append}
use Rattle.std.specs.List.{filter, range_with_len}
use Rattle.mb_stream.specs.Denotation.{Meant}
use Rattle.mb_guard.specs.Sounding.{Voice, voices, turned, last_said, sounds, sounding, off_of, offs}
use Rattle.mb_guard.specs.Guard.{is_same, stands_in, voice_at}
use Rattle.mb_guard.proofs.Sounded.{last_said-append, filter-like, stands-filter, sounding-nothing}
use Rattle.mb_guard.proofs.Heard.{voices-are}

-- a Note Off says of a voice that it is silent, or nothing
abbrev silent : Bool → List Bool
silent t = if t then false ∷ [] else []

turned-off : (v w : Voice) → v.channel < 16 → w.channel < 16 → turned v (off_of w) ≡ silent (is_same v w)
turned-off v w small other =
    let on : ((0x80 + w.channel == 0x90 + v.channel) && (w.key == v.key)) ≡ false = grind (arith, nat_tests) in
    let off : ((0x80 + w.channel == 0x80 + v.channel) && (w.key == v.key)) ≡ is_same v w = grind (arith, nat_tests) in
    ap (λ (t : Bool). if t then nat_lt 0 0x40 ∷ [] else silent
    ((0x80 + w.channel == 0x80 + v.channel) && (w.key == v.key))) on ∙ ap silent off

abbrev AreLow : List Voice → Type 0
AreLow [] = Unit {0}
AreLow (v ∷ vs) = (v.channel < 16) × AreLow vs

silenced : (b t : Bool) → last_said b (silent t) ≡ (b && not t)
silenced true true = refl
silenced true false = refl
silenced false true = refl
silenced false false = refl

both : (b t u : Bool) → ((b && not t) && not u) ≡ (b && not (t || u))
both true true u = refl
both true false u = refl
both false t u = refl

silent-all : (v : Voice) (b : Bool) (ws : List Voice) → v.channel < 16 → AreLow ws →
    last_said b (flat_map (turned v) (map off_of ws)) ≡ (b && not (stands_in v ws))
silent-all v true [] small are = refl
silent-all v false [] small are = refl
silent-all v b (w ∷ ws) small are =
    last_said-append b (turned v (off_of w)) (flat_map (turned v) (map off_of ws)) ∙
    (ap (λ z. last_said (last_said b z) (flat_map (turned v) (map off_of ws))) (turned-off v w small are.0) ∙
    (ap (λ (t : Bool). last_said t (flat_map (turned v) (map off_of ws))) (silenced b (is_same v w)) ∙
    (silent-all v (b && not (is_same v w)) ws small are.1 ∙ both b (is_same v w) (stands_in v ws))))

low_if : (t : Bool) (v : Voice) (vs : List Voice) → v.channel < 16 → AreLow vs → AreLow (cond t (v ∷ vs) vs)
low_if true v vs small are = (small, are)
low_if false v vs small are = are

low-range : (p : Voice → Bool) (i n : ℕ) → i + n ≤ 2048 → AreLow (filter p (map voice_at (range_with_len i n)))
low-range p i zero within = tt
low-range p i (suc n) within =
    low_if (p (voice_at i)) (voice_at i) (filter p (map voice_at (range_with_len (i + 1) n))) (omega (arith, within))
    (low-range p (i + 1) n (omega (arith, within)))

low-voices : (p : Voice → Bool) → AreLow (filter p voices)
low-voices p = subst (λ vs. AreLow (filter p vs)) (sym voices-are) (low-range p 0 2048 (omega arith))

gone : (b : Bool) → (b && not b) ≡ false
gone true = refl
gone false = refl

pub offs-silence : (items : List Meant) → sounding (items ++ offs items) ≡ []
offs-silence items =
    filter-like (λ v. sounds v (items ++ offs items)) (λ v. sounds v [])
    (λ j low.
    let v : Voice = voice_at j in
    ap (last_said false) (flat_map-append (turned v) items (offs items)) ∙
    (last_said-append false (flat_map (turned v) items) (flat_map (turned v) (offs items)) ∙
    (silent-all v (sounds v items) (sounding items) (omega (arith, low)) (low-voices (λ w. sounds w items)) ∙
    (ap (λ (t : Bool). sounds v items && not t) (stands-filter (λ w. sounds w items) j low) ∙
    gone (sounds v items))))) ∙
    sounding-nothing
