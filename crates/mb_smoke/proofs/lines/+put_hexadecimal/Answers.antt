use Rattle.mb_smoke.proofs.TextLemmas.{hexadecimal_put, hexadecimal_end}
use Rattle.mb_smoke.proofs.lines.+put_hexadecimal.Goals as goal

pub returns-then-digits-gt0-clause-written : goal.returns-then-digits-gt0-clause-written
returns-then-digits-gt0-clause-written t c =
    hexadecimal_put c.args.line.now.items c.put_hexadecimal.new.line.items c.push.new.self.items c.args.digits
    c.args.number c.lower_digit.result c.if-digits-gt0.true c.put_hexadecimal.ensures.written c.lower_digit.ensures
    c.push.ensures.items

pub returns-else-digits-gt0-clause-written : goal.returns-else-digits-gt0-clause-written
returns-else-digits-gt0-clause-written t c =
    hexadecimal_end c.args.line.now.items c.args.digits c.args.number c.if-digits-gt0.false
