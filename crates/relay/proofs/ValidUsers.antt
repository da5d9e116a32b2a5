-- The configuration of a relay whose users or secrets are replaced.
use Rattle.std.proofs.Common.{◌≡◌, ℕ, Bool, true, false, not, cond, List, length, Option, None, Some, refl, sym, ap, ◌∙◌, arith}
use Rattle.std.proofs.lemmas.Bool.{le-leb}
use Rattle.std.specs.Prelude.{Vec, is_some, ◌&&◌, nat_le}
use Rattle.std.specs.List.{list_all}
use Rattle.std.specs.declared.alloc.Global.{Global}
use Rattle.std.proofs.lemmas.Option.{none-some}
use Rattle.credentials.specs.declared.checking.User.{User}
use Rattle.control.specs.Configs.{are_distinct, are_users, is_secret, is_user, is_valid_field, fault}
use Rattle.control.specs.declared.config.Config.{Config}
use Rattle.control.specs.declared.config.Field.TheVariants.{FirstPort, Slots, Realm, Nonce, Users, Secret}

-- there is no fault where there is none in the first field and in the others
passes : (b : Bool) {X : Type 0} (x : X) (rest : Option X) → cond (not b) (Some x) rest ≡ None → (b ≡ true) × (rest ≡ None)
passes true x rest e = (refl, e)
passes false x rest e = absurd (none-some x (sym e))

passed : (b : Bool) {X : Type 0} (x : X) (rest : Option X) → b ≡ true → rest ≡ None → cond (not b) (Some x) rest ≡ None
passed true x rest b e = e
passed false x rest b e = absurd cc

-- a configuration without a fault has none with other users that it may have
pub valid_with_users : (c : Config) (users : Vec User Global) → fault c ≡ None → are_users (is_some c.secret) users.items ≡ true → fault (record c { users = users }) ≡ None
valid_with_users c users valid may =
    let first = passes (is_valid_field c FirstPort) FirstPort _ valid in
    let second = passes (is_valid_field c Slots) Slots _ first.1 in
    let third = passes (is_valid_field c Realm) Realm _ second.1 in
    let fourth = passes (is_valid_field c Nonce) Nonce _ third.1 in
    let fifth = passes (is_valid_field c Users) Users _ fourth.1 in
    let d : Config = record c { users = users } in
    passed (is_valid_field d FirstPort) FirstPort _ first.0
    (passed (is_valid_field d Slots) Slots _ second.0
    (passed (is_valid_field d Realm) Realm _ third.0
    (passed (is_valid_field d Nonce) Nonce _ fourth.0
    (passed (is_valid_field d Users) Users _ may fifth.1))))

-- those that may be the users where there is no secret may be them where there is one
dropped : (a b r s : Bool) → (((a && b) && r) && s) ≡ true → ((b && r) && s) ≡ true
dropped true b r s e = e
dropped false b r s e = absurd cc

more_users : (has_secret : Bool) (users : List User) → are_users has_secret users ≡ true → are_users true users ≡ true
more_users true users may = may
more_users false users may =
    ap (λ (b : Bool). b && nat_le (length users) 64 && list_all is_user users && are_distinct users) (le-leb 0 (length users) (omega arith))
    ∙ dropped (nat_le 1 (length users)) (nat_le (length users) 64) (list_all is_user users) (are_distinct users) may

-- nor with other secrets that it may have
pub valid_with_secrets : (c : Config) (secret : Vec ℕ Global) (former : Option (Vec ℕ Global)) → fault c ≡ None → (is_secret (Some secret) && is_secret former) ≡ true
    → fault (record c { secret = Some secret; former_secret = former }) ≡ None
valid_with_secrets c secret former valid may =
    let first = passes (is_valid_field c FirstPort) FirstPort _ valid in
    let second = passes (is_valid_field c Slots) Slots _ first.1 in
    let third = passes (is_valid_field c Realm) Realm _ second.1 in
    let fourth = passes (is_valid_field c Nonce) Nonce _ third.1 in
    let fifth = passes (is_valid_field c Users) Users _ fourth.1 in
    let sixth = passes (is_valid_field c Secret) Secret _ fifth.1 in
    let d : Config = record c { secret = Some secret; former_secret = former } in
    passed (is_valid_field d FirstPort) FirstPort _ first.0
    (passed (is_valid_field d Slots) Slots _ second.0
    (passed (is_valid_field d Realm) Realm _ third.0
    (passed (is_valid_field d Nonce) Nonce _ fourth.0
    (passed (is_valid_field d Users) Users _ (more_users (is_some c.secret) c.users.items fifth.0)
    (passed (is_valid_field d Secret) Secret _ may sixth.1)))))
