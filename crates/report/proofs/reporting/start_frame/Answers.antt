use Rattle.std.proofs.Common.{rules, ◌≡◌, ◌++◌, ◌/◌, ◌≤◌, ℕ, List, ◌<◌, length, take, refl, subst, sym, ap, ◌∙◌, arith}
use Rattle.std.proofs.lemmas.List.{length-append, take_at}
use Rattle.std.specs.Prelude.{Result, Ok, Err, MatchResult}
use Rattle.hex.specs.Hex.{decode_of}
use Rattle.hex.specs.declared.error.FromHexError.{FromHexError}
use Rattle.hex.proofs.HexLemmas.{decode_of-ok, decode_sized-ok, decode_sized-twice}
use Rattle.machine.specs.laws.Frame.{room_written, datagram_started}
use Rattle.report.specs.Traces.{digits_of, HasNoDatagram}
use Rattle.report.proofs.reporting.start_frame.Goals as goal

-- where decoding into a slice succeeded, the slice is what was decoded
written : (decoded : Result (List ℕ) FromHexError) (new : List ℕ) (result : Result (Unit {0}) FromHexError) → result ≡ Ok tt → MatchResult decoded (λ bytes. (result ≡ Ok tt) × (new ≡ bytes)) (λ e. result ≡ Err e) → decoded ≡ Ok new
written (Ok bytes) new result is m = ap Ok (sym m.1)
written (Err e) new result is m = cc (sym is ∙ m)

pub returns-in-Ok-clause-datagram : goal.returns-in-Ok-clause-datagram
returns-in-Ok-clause-datagram c =
    let text = c.as_bytes-digits.result.now in
    let front = c.decode_to_slice.new.out in
    let back = c.split_at_mut-datagram.result.1.now in
    let n = length text / 2 in
    let digits : digits_of c.args.hex ≡ text = search rules in
    let sized = written _ front c.decode_to_slice.result c.in-Ok.is c.decode_to_slice.ensures.value in
    let count = decode_sized-ok text _ front sized in
    let short : length front ≡ n = omega (arith, count) in
    let long : length (front ++ back) ≡ 65507 = omega (arith, length-append front back, c.split_at_mut-datagram.ensures.front_len, c.split_at_mut-datagram.ensures.back_len, c.area.ensures.len) in
    let room = room_written c.args.frame.now (front ++ back) (ap length (sym c.area.ensures.value) ∙ c.area.ensures.len) long in
    let few : n ≤ 65507 = omega (arith, c.if-n-gt-MAX_DATAGRAM) in
    let datagram = datagram_started _ _ _ n (ap length room ∙ long) few c.start.ensures ∙ ap (take n) room ∙ take_at front back n short in
    record {
      decoded = ap decode_of digits ∙ sym (decode_sized-twice text _ count) ∙ sized ∙ ap Ok (sym datagram);
      short = omega (arith, ap length datagram, short, few);
    }

-- the digits of more bytes than a datagram may have encode none
too_many : (text : List ℕ) → 65507 < length text / 2 → HasNoDatagram text
too_many text many datagram encode = let count = (decode_of-ok text datagram encode.decoded).2 in omega (arith, count, many, encode.short)

pub returns-then-n-gt-MAX_DATAGRAM-clause-refused : goal.returns-then-n-gt-MAX_DATAGRAM-clause-refused
returns-then-n-gt-MAX_DATAGRAM-clause-refused c =
    let digits : digits_of c.args.hex ≡ c.as_bytes-digits.result.now = search rules in
    (refl, subst HasNoDatagram (sym digits) (too_many c.as_bytes-digits.result.now (omega (arith, c.if-n-gt-MAX_DATAGRAM))))
