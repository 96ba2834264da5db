use Rattle.std.proofs.Common.{length, ap, sym, ◌∙◌}
use Rattle.mb_message.specs.Signs.{sign_of}
use Rattle.mb_ble.specs.Written.{spelling_at}
use Rattle.mb_ble.proofs.spelling.spelled_len.Goals as goal

pub returns-in-Short : goal.returns-in-Short
returns-in-Short c = record {
  len = λ moment. c.short_len.ensures moment ∙
      ap (λ m. length (spelling_at c.args.running (record { moment = moment; mark = sign_of m }))) (sym c.in-Short.is);
}
