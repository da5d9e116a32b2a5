use Rattle.std.proofs.Common.{◌≡◌, ◌<◌, ◌%◌, ◌^◌, arith, rules, FitsSigned}
use Rattle.std.specs.Int.{w64, int_shr}
use Rattle.std.proofs.lemmas.Int.{to_z-of_z}
use lib.Signed.{mag, mag_shr}
use Rattle.insn.specs.Words.{bit_count}
use Rattle.insn.proofs.SignedWords.{signed_div_is, signed_mod_is, arsh_is}
use Rattle.insn.proofs.word.computed.Goals as goal

pub returns-in-SignedDiv : goal.returns-in-SignedDiv
returns-in-SignedDiv c =
    let x = to_z-of_z w64 c.signed.result (record { sfits = c.signed.type_inv }) in
    let y = to_z-of_z w64 c.signed-in-SignedDiv.result (record { sfits = c.signed-in-SignedDiv.type_inv }) in
    let is = signed_div_is c.args.width c.args.a c.args.b c.requires.a c.requires.b c.signed.result c.signed.ensures c.signed-in-SignedDiv.result c.signed-in-SignedDiv.ensures in
    search (rules, x, y, is, c.signed_div.ensures, c.in-SignedDiv.is)

pub returns-in-SignedMod : goal.returns-in-SignedMod
returns-in-SignedMod c =
    let x = to_z-of_z w64 c.signed-in-SignedMod.result (record { sfits = c.signed-in-SignedMod.type_inv }) in
    let y = to_z-of_z w64 c.signed-in-SignedMod-2.result (record { sfits = c.signed-in-SignedMod-2.type_inv }) in
    let is = signed_mod_is c.args.width c.args.a c.args.b c.requires.a c.requires.b c.signed-in-SignedMod.result c.signed-in-SignedMod.ensures c.signed-in-SignedMod-2.result c.signed-in-SignedMod-2.ensures in
    search (rules, x, y, is, c.signed_mod.ensures, c.in-SignedMod.is)

pub returns-in-Arsh : goal.returns-in-Arsh
returns-in-Arsh c =
    let fits : FitsSigned w64 c.signed-in-Arsh.result = record { sfits = c.signed-in-Arsh.type_inv } in
    let x = to_z-of_z w64 c.signed-in-Arsh.result fits in
    let is = arsh_is c.args.width c.args.a c.args.b c.requires.a c.requires.b c.signed-in-Arsh.result (c.signed-in-Arsh.ensures) in
    let count : c.from.result ≡ bit_count c.args.width = search rules in
    let small : mag (int_shr c.signed-in-Arsh.result (c.args.b % c.from.result)) < 2 ^ 63 = omega (arith, mag_shr c.signed-in-Arsh.result (2 ^ (c.args.b % c.from.result)), c.signed-in-Arsh.type_inv) in
    let y = to_z-of_z w64 (int_shr c.signed-in-Arsh.result (c.args.b % c.from.result)) (record { sfits = small }) in
    search (rules, x, y, is, count, c.cast_unsigned.ensures, c.in-Arsh.is)

pub returns-in-Add : goal.returns-in-Add
returns-in-Add c = search rules
