-- Interface. The text of a line's last field.
use Rattle.std.specs.Prelude.{ℕ, List}
use Rattle.events.specs.Lines.{bytes_text}
use Rattle.events.specs.declared.writing.LineField.{LineField}
use Rattle.events.specs.declared.writing.LineField.TheVariants as field

abbrev pub field_text : LineField → List ℕ
field_text (field.Digits bytes) = bytes_text bytes.now
field_text (field.Text text) = text.now
