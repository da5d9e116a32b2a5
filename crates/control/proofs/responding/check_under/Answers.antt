use Rattle.std.proofs.Common.{sym}
use Rattle.control.proofs.responding.check_under.Goals as goal

pub returns : goal.returns
returns c = rw (sym c.deref-2.ensures, sym c.as_str.ensures.value, sym c.deref.ensures.value, sym c.time_limited.ensures) c.authenticate.ensures.checked
