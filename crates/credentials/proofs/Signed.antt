-- A message that was signed has its MESSAGE-INTEGRITY.
use Rattle.std.proofs.Common.{◌≡◌, ℕ, Ok, Bool, true, false, List, [], ◌∷◌, ◌++◌, map, Option, Some, None, refl, sym, ap, ◌∙◌}
use Rattle.std.specs.Prelude.{option_map, ◌==◌, if◌then◌else◌}
use Rattle.stun.specs.Registry.{message_integrity}
use Rattle.stun.specs.Messages.{PaddedAttribute, Parts, attribute_of, up_to_integrity, before_first, zero_padded}
use Rattle.credentials.specs.Hmac.{hmac}
use Rattle.credentials.specs.TimeLimited.{Account}
use Rattle.credentials.specs.Checks.{Directory, HasAccount, HasCredentials, IsChecked, first_value}
use Rattle.credentials.specs.Integrity.{covered_bytes, integrity_under, integrity_of}
use Rattle.credentials.specs.Signs.{IsUnsigned, with_integrity}
use Rattle.credentials.proofs.Values.{value_cons}
use Rattle.stun.specs.Attributes.{value_of}
use Rattle.stun.specs.declared.registry.attribute.TheConstants.{USERNAME, REALM, NONCE}

some_is_none : {A : Type 0} (x : A) → Some x ≡ None → ⊥
some_is_none x e = absurd cc

none_mapped : {A B : Type 0} (f : A → B) (o : Option A) → option_map f o ≡ None → o ≡ None
none_mapped f None e = refl
none_mapped f (Some x) e = absurd (some_is_none (f x) e)

-- what comes after attributes of which none is a MESSAGE-INTEGRITY
front_step : (b : Bool) (a : PaddedAttribute) (attributes : List PaddedAttribute) (o o' : Option (List PaddedAttribute)) → (o ≡ None → o' ≡ Some attributes) → (if b then Some [] else option_map (λ front. a ∷ front) o) ≡ None → (if b then Some [] else option_map (λ front. a ∷ front) o') ≡ Some (a ∷ attributes)
front_step true a attributes o o' on e = absurd (some_is_none [] e)
front_step false a attributes o o' on e = ap (option_map (λ front. a ∷ front)) (on (none_mapped (λ front. a ∷ front) o e))

front_is : (attributes : List PaddedAttribute) (value : List ℕ) → before_first attributes ≡ None → before_first (attributes ++ zero_padded message_integrity value ∷ []) ≡ Some attributes
front_is [] value e = refl
front_is (a ∷ attributes) value e = front_step (a.kind == message_integrity) a attributes (before_first attributes) (before_first (attributes ++ zero_padded message_integrity value ∷ [])) (front_is attributes value) e

value_step : (b : Bool) (a : PaddedAttribute) (value : List ℕ) (o : Option (List PaddedAttribute)) (rest : List PaddedAttribute) → (o ≡ None → value_of message_integrity (map attribute_of rest) ≡ Some value) → (if b then Some [] else option_map (λ front. a ∷ front) o) ≡ None
    → (if b then Some a.value else value_of message_integrity (map attribute_of (if b then [] else rest))) ≡ Some value
value_step true a value o rest on e = absurd (some_is_none [] e)
value_step false a value o rest on e = on (none_mapped (λ front. a ∷ front) o e)

value_is : (attributes : List PaddedAttribute) (value : List ℕ) → before_first attributes ≡ None → value_of message_integrity (map attribute_of (up_to_integrity (attributes ++ zero_padded message_integrity value ∷ []))) ≡ Some value
value_is [] value e = refl
value_is (a ∷ attributes) value e = value_cons message_integrity (attribute_of a) (map attribute_of (if a.kind == message_integrity then [] else up_to_integrity (attributes ++ zero_padded message_integrity value ∷ []))) ∙ value_step (a.kind == message_integrity) a value (before_first attributes) (up_to_integrity (attributes ++ zero_padded message_integrity value ∷ [])) (value_is attributes value) e

-- the MESSAGE-INTEGRITY of a signed message is the right one
pub sign_is_right : (key : List ℕ) (p q : Parts) → q ≡ with_integrity key p → before_first p.attributes ≡ None → integrity_under key q ≡ first_value q message_integrity
sign_is_right key p q is none =
    let integrity : List ℕ = integrity_of key p in
    let right : integrity_under key (with_integrity key p) ≡ first_value (with_integrity key p) message_integrity =
    ap (λ (o : Option (List PaddedAttribute)). option_map (λ front. hmac key (covered_bytes p front)) o) (front_is p.attributes integrity none)
    ∙ sym (value_is p.attributes integrity none) in
    ap (integrity_under key) is ∙ right ∙ ap (λ (r : Parts). first_value r message_integrity) (sym is)

-- attributes without a MESSAGE-INTEGRITY have the same values with one after them
kept_step : (b c : Bool) (a : PaddedAttribute) (kind : ℕ) (x value : List ℕ) (o : Option (List PaddedAttribute)) (before after : List PaddedAttribute)
    → (o ≡ None → value_of kind (map attribute_of before) ≡ Some value → value_of kind (map attribute_of after) ≡ Some value) → (if b then Some [] else option_map (λ front. a ∷ front) o) ≡ None
    → (if c then Some x else value_of kind (map attribute_of (if b then [] else before))) ≡ Some value → (if c then Some x else value_of kind (map attribute_of (if b then [] else after))) ≡ Some value
kept_step true c a kind x value o before after on e is = absurd (some_is_none [] e)
kept_step false true a kind x value o before after on e is = is
kept_step false false a kind x value o before after on e is = on (none_mapped (λ front. a ∷ front) o e) is

kept : (attributes : List PaddedAttribute) (kind : ℕ) (integrity value : List ℕ) → before_first attributes ≡ None → value_of kind (map attribute_of (up_to_integrity attributes)) ≡ Some value
    → value_of kind (map attribute_of (up_to_integrity (attributes ++ zero_padded message_integrity integrity ∷ []))) ≡ Some value
kept [] kind integrity value e is = absurd (some_is_none value (sym is))
kept (a ∷ attributes) kind integrity value e is =
    value_cons kind (attribute_of a) (map attribute_of (if a.kind == message_integrity then [] else up_to_integrity (attributes ++ zero_padded message_integrity integrity ∷ [])))
    ∙ kept_step (a.kind == message_integrity) (a.kind == kind) a kind a.value value (before_first attributes) (up_to_integrity attributes) (up_to_integrity (attributes ++ zero_padded message_integrity integrity ∷ [])) (kept attributes kind integrity value) e (sym (value_cons kind (attribute_of a) (map attribute_of (if a.kind == message_integrity then [] else up_to_integrity attributes))) ∙ is)

-- a message that lacks only its MESSAGE-INTEGRITY, with this one
pub sign_is_accepted : (p : Parts) (name realm nonce : List ℕ) (accounts : Directory) (account : Account) → IsUnsigned p nonce name → HasAccount realm accounts name account → IsChecked (with_integrity account.key p) realm accounts nonce (Ok account)
sign_is_accepted p name realm nonce accounts account is has =
    let key : List ℕ = account.key in
    let integrity : List ℕ = integrity_of key p in
    let integrity_is : first_value (with_integrity key p) message_integrity ≡ Some integrity = value_is p.attributes integrity is.no_integrity in
    let fresh : HasCredentials (with_integrity key p) nonce integrity name = record {
      integrity_is = integrity_is;
      name_is = kept p.attributes USERNAME integrity name is.no_integrity is.name_is;
      realm = is.realm;
      realm_is = kept p.attributes REALM integrity is.realm is.no_integrity is.realm_is;
      nonce_is = kept p.attributes NONCE integrity nonce is.no_integrity is.nonce_is;
    } in
    (integrity, name, fresh, has, sign_is_right key p (with_integrity key p) refl is.no_integrity ∙ integrity_is)
