use Rattle.std.proofs.Common.{rules, ap, length, subst, arith}
use Rattle.std.specs.Prelude.{Some}
use Rattle.std.specs.Io.BufRead.{FillKeeps}
use Rattle.basics.proofs.Showing.{shows_front, appends_few}
use Rattle.basics.proofs.streams.input.append_shown.Goals as goal

pub returns-in-Ok-clause-shown : goal.returns-in-Ok-clause-shown
returns-in-Ok-clause-shown g c =
    let rested = c.fill_buf.follows.lender-at-none in
    let filled = subst (FillKeeps _ (g.R.Read.remaining rested) (g.R.BufRead.consumable_len rested)) c.in-Ok.is c.fill_buf.follows.holds-at-none in
    shows_front c.in-Ok.shown.now c.min.result (omega (arith, c.min.ensures)) (λ none. omega (arith, c.min.ensures, none, c.requires))
    (g.R.Read.remaining c.args.reader.now) (g.R.Read.remaining c.loop-calls.reader) (g.R.Read.remaining rested) (g.R.Read.remaining c.consume.new.self) (g.R.BufRead.consumable_len rested) (Some c.read_until.new.self.now)
    c.args.line.now.items c.loop-calls.line.items c.read_until.new.buf.items c.in-Ok-read_until.count
    c.loop-calls.invariant.0 c.loop-calls.invariant.2 c.read_until.ensures.appends c.read_until.ensures.stops (search rules) c.read_until.ensures.none_lost c.in-Ok-read_until.ensures.end
    c.in-Ok.ensures.front c.in-Ok.ensures.end filled.0 filled.1 c.consume.ensures.bytes

pub returns-in-Ok-clause-short : goal.returns-in-Ok-clause-short
returns-in-Ok-clause-short g c =
    omega (
      arith,
      ap length c.loop-calls.invariant.0,
      appends_few c.in-Ok.shown.now c.min.result c.args.most c.loop-calls.line.items c.read_until.new.buf.items c.read_until.new.self.now
          (omega (arith, c.min.ensures)) (omega (arith, c.min.ensures)) c.read_until.ensures.appends c.read_until.ensures.none_lost,
    )
