use Rattle.std.proofs.Common.{set, sym, ◌∙◌, ap}
use Rattle.mb_message.specs.Signs.{ShortSign}
use Rattle.mb_guard.specs.Guard.{after, sounding_from}
use Rattle.mb_guard.proofs.Heard.{after-some, after-none}
use Rattle.mb_guard.proofs.guard.Guard.turn.Goals as goal

pub returns-in-Some : goal.returns-in-Some
returns-in-Some c =
    ap (λ b. sounding_from 0 (set c.self.inside.sounds c.in-Some.place b)) c.begins.ensures ∙
    (after-some c.self.inside.sounds c.in-Some.place c.args.short.status c.args.short.data1 c.args.short.data2
    c.self.told c.in-Some.ensures.key (sym c.place_of.ensures.place ∙ c.in-Some.is) ∙
    ap (λ z. after z (ShortSign c.args.short.status c.args.short.data1 c.args.short.data2)) c.self.view_is)

pub returns-in_default : goal.returns-in_default
returns-in_default c =
    sym c.self.view_is ∙
    (after-none c.self.inside.sounds c.args.short.status c.args.short.data1 c.args.short.data2 c.self.told
    (sym c.place_of.ensures.place ∙ c.in_default.is) ∙
    ap (λ z. after z (ShortSign c.args.short.status c.args.short.data1 c.args.short.data2)) c.self.view_is)
