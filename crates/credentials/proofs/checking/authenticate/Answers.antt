use Rattle.std.proofs.Common.{◌≡◌, Ok, Err, true, false, refl, rules}
use Rattle.std.proofs.lemmas.Result.{err_from_is_err_and}
use Rattle.credentials.specs.Checks.{directory_of, account_of}
use Rattle.credentials.specs.declared.checking.AuthError.TheVariants.{WrongIntegrity}
use Rattle.credentials.proofs.Results.{refused_for, result_is_checked}
use Rattle.credentials.proofs.checking.authenticate.Goals as goal

false_is_not_true : false ≡ true → ⊥
false_is_not_true e = absurd cc

pub returns-in_err-integrity-clause-is_checked : goal.returns-in_err-integrity-clause-is_checked
returns-in_err-integrity-clause-is_checked c =
    let p = err_from_is_err_and c.from_residual.result c.from_residual.ensures.1 in
    rw (p.1, p.2) (c.in_err-integrity.ensures.refused c.args.realm.now (directory_of c.args.directory.now))

pub returns-in_err-integrity-clause-checked : goal.returns-in_err-integrity-clause-checked
returns-in_err-integrity-clause-checked c =
    let p = err_from_is_err_and c.from_residual.result c.from_residual.ensures.1 in
    rw (p.1, p.2) (result_is_checked c.args.message.now c.args.realm.now (directory_of c.args.directory.now) c.args.nonce.now _ (c.in_err-integrity.ensures.refused c.args.realm.now (directory_of c.args.directory.now)))

pub returns-in_default-clause-is_checked : goal.returns-in_default-clause-is_checked
returns-in_default-clause-is_checked c =
    refused_for c.args.message.now c.args.realm.now (directory_of c.args.directory.now) c.args.nonce.now c.in_ok-integrity.integrity.now c.in_ok-integrity.name.now
    c.in_ok-integrity.ensures.found (search rules) c.lacking.result c.lacking.ensures

pub returns-in_default-clause-checked : goal.returns-in_default-clause-checked
returns-in_default-clause-checked c =
    result_is_checked c.args.message.now c.args.realm.now (directory_of c.args.directory.now) c.args.nonce.now (Err c.lacking.result) (returns-in_default-clause-is_checked c)

pub returns-then-is_integrity-clause-checked : goal.returns-then-is_integrity-clause-checked
returns-then-is_integrity-clause-checked c =
    result_is_checked c.args.message.now c.args.realm.now (directory_of c.args.directory.now) c.args.nonce.now (Ok (account_of c.in-Some.account)) (
      c.in_ok-integrity.integrity.now,
      c.in_ok-integrity.name.now,
      c.in_ok-integrity.ensures.found,
      c.in-Some.ensures.some,
      c.if-is_integrity.ensures.0 refl,
    )

pub returns-else-is_integrity-clause-checked : goal.returns-else-is_integrity-clause-checked
returns-else-is_integrity-clause-checked c =
    result_is_checked c.args.message.now c.args.realm.now (directory_of c.args.directory.now) c.args.nonce.now (Err WrongIntegrity) (
      c.in_ok-integrity.integrity.now,
      c.in_ok-integrity.name.now,
      account_of c.in-Some.account,
      c.in_ok-integrity.ensures.found,
      c.in-Some.ensures.some,
      λ right. false_is_not_true (c.if-is_integrity.ensures.1 right),
    )
