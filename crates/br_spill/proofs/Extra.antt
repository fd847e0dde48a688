-- A memory with extra bytes beside those of another: what is read and written in both, and in the extra bytes
-- alone.
use Rattle.std.proofs.Common.{◌≡◌, ◌≢◌, ℕ, zero, suc, ◌+◌, ◌/◌, ◌^◌, ◌<◌, ◌≤◌, ◌==◌, Bool}
use Rattle.std.proofs.Common.{true, false, if◌then◌else◌, List, [], ◌∷◌, length, Option}
use Rattle.std.proofs.Common.{Some, None, ◌⊎◌, inl, inr, refl, sym, ap, subst, ◌∙◌, arith}
use Rattle.std.specs.Prelude.{IfSome}
use Rattle.std.specs.Option.{option_map}
use Rattle.std.specs.FinMap as map
use Rattle.std.proofs.lemmas.Bool.Decides.{nat_tests}
use Rattle.br_words.specs.declared.size.Size.{Size}
use Rattle.br_words.specs.declared.size.Size.TheVariants.{One, Two, Four}
use Rattle.br_words.specs.Size.{size_of}
use Rattle.br_bytes.specs.Number.{number_of, low_bytes}
use Rattle.br_bytes.specs.Memory.{Memory, place, in_front, bytes_at, get_number, put_number, with_bytes}
use Rattle.br_bytes.specs.Buffers.{AreBytes, are_free, without_range}
use Rattle.br_bytes.proofs.Bytes.{get-insert_same, get-insert_other}
use Rattle.br_bytes.proofs.Away.{get-without_in, get-without_below, get-without_above, free_is_none, free_from_none}
use Rattle.br_bytes.proofs.Effects.{by_place}

-- bytes by address
abbrev pub Extra : Type 0
Extra = ℕ → Option ℕ

-- at one address: an extra byte is mine alone, and elsewhere both have the same
abbrev pub Byte : Option ℕ → Option ℕ → Option ℕ → Type 0
Byte (Some b) mine theirs = (mine ≡ Some b) × (theirs ≡ None)
Byte None mine theirs = (mine ≡ theirs) × IfSome theirs (λ b. b < 256)

-- the first memory is the second with extra bytes
abbrev pub Extends : Extra → Memory → Memory → Type 0
Extends e m k = (x : ℕ) → Byte (e x) (map.get m x) (map.get k x)

pub byte-theirs : (o mine theirs : Option ℕ) → Byte o mine theirs → (b : ℕ) → theirs ≡ Some b
    → (o ≡ None) × (mine ≡ Some b) × (b < 256)
byte-theirs (Some c) mine theirs h b is = let none = h.1 in absurd (cc (none, is))
byte-theirs None mine theirs h b is = (refl, h.0 ∙ is, subst (λ o. IfSome o (λ b. b < 256)) is h.1)

pub byte-free : (o mine theirs : Option ℕ) → Byte o mine theirs → mine ≡ None → (o ≡ None) × (theirs ≡ None)
byte-free (Some c) mine theirs h none = let some = h.0 in absurd (cc (none, some))
byte-free None mine theirs h none = (refl, sym h.0 ∙ none)

pub byte-mine : (o mine theirs : Option ℕ) → Byte o mine theirs → (b : ℕ) → o ≡ Some b
    → (mine ≡ Some b) × (theirs ≡ None)
byte-mine (Some c) mine theirs h b is = (h.0 ∙ is, h.1)
byte-mine None mine theirs h b is = absurd (cc is)

pub byte-extra : (o mine theirs : Option ℕ) → Byte o mine theirs → o ≢ None
    → (b : ℕ) × (mine ≡ Some b) × (theirs ≡ None)
byte-extra (Some c) mine theirs h some = (c, h.0, h.1)
byte-extra None mine theirs h some = absurd (some refl)

byte-same : (o p mine m2 theirs t2 : Option ℕ) → o ≡ p → mine ≡ m2 → theirs ≡ t2 → Byte p m2 t2 → Byte o mine theirs
byte-same o p mine m2 theirs t2 e f g h =
    subst (λ x. Byte x mine theirs) (sym e) (subst (λ x. Byte p x theirs) (sym f) (subst (λ x. Byte p m2 x) (sym g) h))

pub equal_or : (x a : ℕ) → (x ≡ a) ⊎ (x ≢ a)
equal_or x a = by (x == a) refl
  where
    by : (t : Bool) → (x == a) ≡ t → (x ≡ a) ⊎ (x ≢ a)
    by true is = inl (grind (arith, nat_tests))
    by false is = inr (λ e. absurd (grind (arith, nat_tests)))

equals : (x : ℕ) → (x == x) ≡ true
equals x = grind (arith, nat_tests)

differs : (x y : ℕ) → x ≢ y → (x == y) ≡ false
differs x y ne = grind (arith, nat_tests)

-- the i-th place after the first
next_place : (a i : ℕ) → place (a + 1 + i) ≡ place (a + suc i)
next_place a i = let e : a + 1 + i ≡ a + suc i = omega arith in ap place e

place_zero : (a : ℕ) → place a ≡ place (a + 0)
place_zero a = let e : a ≡ a + 0 = omega arith in ap place e

-- ---- bytes in both

insert-both : (e : Extra) (m k : Memory) (a b : ℕ) → Extends e m k → e a ≡ None → b < 256
    → Extends e (map.insert m a b) (map.insert k a b)
insert-both e m k a b h none small x = by (equal_or x a)
  where
    here : Byte (e a) (map.get (map.insert m a b) a) (map.get (map.insert k a b) a)
    here = byte-same (e a) None (map.get (map.insert m a b) a) (Some b) (map.get (map.insert k a b) a) (Some b) none
        (get-insert_same m a b) (get-insert_same k a b) (refl, small)

    by : (x ≡ a) ⊎ (x ≢ a) → Byte (e x) (map.get (map.insert m a b) x) (map.get (map.insert k a b) x)
    by (inl same) =
        subst (λ y. Byte (e y) (map.get (map.insert m a b) y) (map.get (map.insert k a b) y)) (sym same) here
    by (inr ne) = byte-same (e x) (e x) (map.get (map.insert m a b) x) (map.get m x) (map.get (map.insert k a b) x)
        (map.get k x) refl (get-insert_other m a b x ne) (get-insert_other k a b x ne) (h x)

pub with_bytes-both : (bs : List ℕ) (e : Extra) (m k : Memory) (a : ℕ) → Extends e m k → ((i : ℕ) → i < length bs
    → e (place (a + i)) ≡ None) → AreBytes bs → Extends e (with_bytes m a bs) (with_bytes k a bs)
with_bytes-both [] e m k a h none small = h
with_bytes-both (b ∷ bs) e m k a h none small =
    insert-both e (with_bytes m (a + 1) bs) (with_bytes k (a + 1) bs) (place a) b
    (with_bytes-both bs e m k (a + 1) h (λ i l. ap e (next_place a i) ∙ none (suc i) (omega arith)) small.1)
    (ap e (place_zero a) ∙ none 0 (omega arith)) small.0

record Front (o : Option ℕ) (p : Option (List ℕ)) (bs : List ℕ) : Type 0 where
  byte : ℕ
  rest : List ℕ
  first : o ≡ Some byte
  second : p ≡ Some rest
  is : bs ≡ byte ∷ rest

front : (o : Option ℕ) (p : Option (List ℕ)) (bs : List ℕ) → in_front o p ≡ Some bs → Front o p bs
front None p bs e = absurd (cc e)
front (Some b) None bs e = absurd (cc e)
front (Some b) (Some cs) bs e = record { byte = b; rest = cs; first = refl; second = refl; is = cc e }

in_front-some : (o : Option ℕ) (p : Option (List ℕ)) (b : ℕ) (bs : List ℕ) → o ≡ Some b → p ≡ Some bs
    → in_front o p ≡ Some (b ∷ bs)
in_front-some o p b bs e f = rw (e, f) refl

-- what the second memory has at an address
pub record Has (e : Extra) (m : Memory) (a n : ℕ) (bs : List ℕ) : Type 0 where
  pub there : bytes_at m a n ≡ Some bs
  pub small : AreBytes bs
  pub count : length bs ≡ n
  pub apart : (i : ℕ) → i < n → e (place (a + i)) ≡ None

pub extends-bytes : (n : ℕ) (e : Extra) (m k : Memory) (a : ℕ) (bs : List ℕ) → Extends e m k → bytes_at k a n ≡ Some bs
    → Has e m a n bs
extends-bytes zero e m k a bs h is =
    let same : bs ≡ [] = cc is in
    subst (Has e m a 0) (sym same)
    (record { there = refl; small = tt; count = refl; apart = λ i l. absurd (omega (arith, l)) })
extends-bytes (suc n) e m k a bs h is =
    let f = front (map.get k (place a)) (bytes_at k (a + 1) n) bs is in
    let rest = extends-bytes n e m k (a + 1) f.rest h f.second in
    let here = byte-theirs (e (place a)) (map.get m (place a)) (map.get k (place a)) (h (place a)) f.byte f.first in
    subst (Has e m a (suc n)) (sym f.is) (record {
      there = in_front-some (map.get m (place a)) (bytes_at m (a + 1) n) f.byte f.rest here.1 rest.there;
      small = (here.2, rest.small);
      count = ap suc rest.count;
      apart = apart here.0 rest.apart;
    })
  where
    apart : e (place a) ≡ None → ((i : ℕ) → i < n → e (place (a + 1 + i)) ≡ None) → (i : ℕ) → i < suc n
        → e (place (a + i)) ≡ None
    apart here rest zero l = ap e (sym (place_zero a)) ∙ here
    apart here rest (suc i) l = ap e (sym (next_place a i)) ∙ rest i (omega arith)

pub number_small : (bs : List ℕ) → AreBytes bs → length bs ≤ 4 → number_of bs < 2 ^ 32
number_small [] h l = omega arith
number_small (a ∷ []) h l = let x = h.0 in omega (arith, x)
number_small (a ∷ b ∷ []) h l = let x = h.0 in let y = h.1.0 in omega (arith, x, y)
number_small (a ∷ b ∷ c ∷ []) h l = let x = h.0 in let y = h.1.0 in let z = h.1.1.0 in omega (arith, x, y, z)
number_small (a ∷ b ∷ c ∷ d ∷ []) h l = let x = h.0 in let y = h.1.0 in let z = h.1.1.0 in let w = h.1.1.1.0 in
    omega (arith, x, y, z, w)
number_small (a ∷ b ∷ c ∷ d ∷ f ∷ bs) h l = absurd (omega (arith, l))

pub size_small : (size : Size) → size_of size ≤ 4
size_small One = omega arith
size_small Two = omega arith
size_small Four = omega arith

-- a number that is read in the second is the first's, and a word
pub extends-get : (size : Size) (e : Extra) (m k : Memory) (a v : ℕ) → Extends e m k
    → get_number k a (size_of size) ≡ Some v → (get_number m a (size_of size) ≡ Some v) × (v < 2 ^ 32)
extends-get size e m k a v h is = by (bytes_at k a (size_of size)) refl is
  where
    by : (o : Option (List ℕ)) → bytes_at k a (size_of size) ≡ o → option_map number_of o ≡ Some v
        → (get_number m a (size_of size) ≡ Some v) × (v < 2 ^ 32)
    by None found e = absurd (cc e)
    by (Some bs) found e =
        let has = extends-bytes (size_of size) _ m k a bs h found in
        let same : number_of bs ≡ v = cc e in
        let le : length bs ≤ 4 = subst (λ n. n ≤ 4) (sym has.count) (size_small size) in
        (ap (option_map number_of) has.there ∙ e, subst (λ n. n < 2 ^ 32) same (number_small bs has.small le))

pub low_bytes-small : (n v : ℕ) → AreBytes (low_bytes n v)
low_bytes-small zero v = tt
low_bytes-small (suc n) v = (omega arith, low_bytes-small n (v / 256))

pub low_bytes-length : (n v : ℕ) → length (low_bytes n v) ≡ n
low_bytes-length zero v = refl
low_bytes-length (suc n) v = ap suc (low_bytes-length n (v / 256))

pub record Puts (e : Extra) (m : Memory) (a n v : ℕ) (k2 : Memory) : Type 0 where
  pub memory : Memory
  pub is : put_number m a n v ≡ Some memory
  pub extends : Extends e memory k2

-- a number that is put in the second is put in the first
pub extends-put : (n : ℕ) (e : Extra) (m k : Memory) (a v : ℕ) (k2 : Memory) → Extends e m k
    → put_number k a n v ≡ Some k2 → Puts e m a n v k2
extends-put n e m k a v k2 h is = by (bytes_at k a n) refl is
  where
    by : (o : Option (List ℕ)) → bytes_at k a n ≡ o → option_map (λ _. with_bytes k a (low_bytes n v)) o ≡ Some k2
        → Puts e m a n v k2
    by None found f = absurd (cc f)
    by (Some bs) found f =
        let has = extends-bytes n e m k a bs h found in
        let same : with_bytes k a (low_bytes n v) ≡ k2 = cc f in
        record {
          memory = with_bytes m a (low_bytes n v);
          is = ap (option_map (λ _. with_bytes m a (low_bytes n v))) has.there;
          extends = subst (Extends e (with_bytes m a (low_bytes n v))) same
              (with_bytes-both (low_bytes n v) e m k a h
              (λ i l. has.apart i (subst (λ j. i < j) (low_bytes-length n v) l)) (low_bytes-small n v));
        }

-- ---- extra bytes

abbrev pub with_extra : Extra → ℕ → List ℕ → Extra
with_extra e a [] x = e x
with_extra e a (b ∷ bs) x = if x == place a then Some b else with_extra e (a + 1) bs x

pub extra-here : (e : Extra) (a b : ℕ) (bs : List ℕ) (x : ℕ) → x ≡ place a → with_extra e a (b ∷ bs) x ≡ Some b
extra-here e a b bs x same =
    ap (λ t. if t then Some b else with_extra e (a + 1) bs x) (ap (λ y. y == place a) same ∙ equals (place a))

pub extra-there : (e : Extra) (a b : ℕ) (bs : List ℕ) (x : ℕ) → x ≢ place a
    → with_extra e a (b ∷ bs) x ≡ with_extra e (a + 1) bs x
extra-there e a b bs x ne = ap (λ t. if t then Some b else with_extra e (a + 1) bs x) (differs x (place a) ne)

pub extra-other : (bs : List ℕ) (e : Extra) (a x : ℕ) → ((i : ℕ) → i < length bs → x ≢ place (a + i))
    → with_extra e a bs x ≡ e x
extra-other [] e a x apart = refl
extra-other (b ∷ bs) e a x apart =
    extra-there e a b bs x (λ same. apart 0 (omega arith) (same ∙ place_zero a))
    ∙ extra-other bs e (a + 1) x (λ i l same. apart (suc i) (omega arith) (same ∙ next_place a i))

some_is : (o : Option ℕ) (b : ℕ) → o ≡ Some b → o ≢ None
some_is o b is none = absurd (cc (is, none))

pub extra-some : (bs : List ℕ) (e : Extra) (a x i : ℕ) → i < length bs → x ≡ place (a + i) → with_extra e a bs x ≢ None
extra-some [] e a x i l same = absurd (omega (arith, l))
extra-some (b ∷ bs) e a x i l same = by (equal_or x (place a)) i l same (λ j l same. extra-some bs e (a + 1) x j l same)
  where
    by : (x ≡ place a) ⊎ (x ≢ place a) → (i : ℕ) → i < suc (length bs) → x ≡ place (a + i) → ((j : ℕ) → j < length bs
        → x ≡ place (a + 1 + j) → with_extra e (a + 1) bs x ≢ None) → with_extra e a (b ∷ bs) x ≢ None
    by (inl here) i l same again = some_is (with_extra e a (b ∷ bs) x) b (extra-here e a b bs x here)
    by (inr ne) zero l same again = absurd (ne (same ∙ sym (place_zero a)))
    by (inr ne) (suc i) l same again =
        λ none. again i (omega (arith, l)) (same ∙ sym (next_place a i)) (sym (extra-there e a b bs x ne) ∙ none)

pub with_extra-extends : (bs : List ℕ) (e : Extra) (m k : Memory) (a : ℕ) → Extends e m k
    → ((i : ℕ) → i < length bs → map.get k (place (a + i)) ≡ None) → Extends (with_extra e a bs) (with_bytes m a bs) k
with_extra-extends [] e m k a h free x = h x
with_extra-extends (b ∷ bs) e m k a h free x = by (equal_or x (place a))
    (with_extra-extends bs e m k (a + 1) h (λ i l. ap (map.get k) (next_place a i) ∙ free (suc i) (omega (arith, l))))
  where
    by : (x ≡ place a) ⊎ (x ≢ place a) → Extends (with_extra e (a + 1) bs) (with_bytes m (a + 1) bs) k
        → Byte (with_extra e a (b ∷ bs) x) (map.get (with_bytes m a (b ∷ bs)) x) (map.get k x)
    by (inl same) rest =
        byte-same (with_extra e a (b ∷ bs) x) (Some b) (map.get (with_bytes m a (b ∷ bs)) x) (Some b) (map.get k x) None
        (extra-here e a b bs x same) (ap (map.get (map.insert (with_bytes m (a + 1) bs) (place a) b)) same
        ∙ get-insert_same (with_bytes m (a + 1) bs) (place a) b)
        (ap (map.get k) (same ∙ place_zero a) ∙ free 0 (omega arith)) (refl, refl)
    by (inr ne) rest =
        byte-same (with_extra e a (b ∷ bs) x) (with_extra e (a + 1) bs x) (map.get (with_bytes m a (b ∷ bs)) x)
        (map.get (with_bytes m (a + 1) bs) x) (map.get k x) (map.get k x)
        (extra-there e a b bs x ne) (get-insert_other (with_bytes m (a + 1) bs) (place a) b x ne) refl (rest x)

-- these bytes stand in the extra bytes from an address on
abbrev pub Stands : Extra → ℕ → List ℕ → Type 0
Stands e a [] = Unit {0}
Stands e a (b ∷ bs) = (e (place a) ≡ Some b) × Stands e (a + 1) bs

pub stands-kept : (bs : List ℕ) (e e2 : Extra) (a : ℕ)
    → ((i : ℕ) → i < length bs → e2 (place (a + i)) ≡ e (place (a + i))) → Stands e a bs → Stands e2 a bs
stands-kept [] e e2 a same h = tt
stands-kept (b ∷ bs) e e2 a same h = (
  ap e2 (place_zero a) ∙ same 0 (omega arith) ∙ ap e (sym (place_zero a)) ∙ h.0,
  stands-kept bs e e2 (a + 1)
      (λ i l. ap e2 (next_place a i) ∙ same (suc i) (omega (arith, l)) ∙ ap e (sym (next_place a i))) h.1,
)

place_apart : (a i : ℕ) → i + 1 < 2 ^ 32 → place (a + 1 + i) ≢ place a
place_apart a i h = λ e. omega (arith, e)

pub stands-written : (bs : List ℕ) (e : Extra) (a : ℕ) → length bs < 2 ^ 32 → Stands (with_extra e a bs) a bs
stands-written [] e a few = tt
stands-written (b ∷ bs) e a few = (
  extra-here e a b bs (place a) refl,
  stands-kept bs (with_extra e (a + 1) bs) (with_extra e a (b ∷ bs)) (a + 1)
      (λ i l. extra-there e a b bs (place (a + 1 + i)) (place_apart a i (omega (arith, l, few))))
      (stands-written bs e (a + 1) (omega (arith, few))),
)

pub stands-read : (bs : List ℕ) (e : Extra) (m k : Memory) (a : ℕ) → Extends e m k → Stands e a bs
    → bytes_at m a (length bs) ≡ Some bs
stands-read [] e m k a h stands = refl
stands-read (b ∷ bs) e m k a h stands =
    in_front-some (map.get m (place a)) (bytes_at m (a + 1) (length bs)) b bs
    ((byte-mine (e (place a)) (map.get m (place a)) (map.get k (place a)) (h (place a)) b stands.0).0)
    (stands-read bs e m k (a + 1) h stands.1)

-- what is put where there are extra bytes
pub record Owned (e : Extra) (m : Memory) (a n : ℕ) : Type 0 where
  pub bytes : List ℕ
  pub there : bytes_at m a n ≡ Some bytes

pub extra-owned : (n : ℕ) (e : Extra) (m k : Memory) (a : ℕ) → Extends e m k
    → ((i : ℕ) → i < n → e (place (a + i)) ≢ None) → Owned e m a n
extra-owned zero e m k a h some = record { bytes = []; there = refl }
extra-owned (suc n) e m k a h some =
    let rest = extra-owned n e m k (a + 1) h
    (λ i l none. some (suc i) (omega (arith, l)) (ap e (sym (next_place a i)) ∙ none)) in
    let here = byte-extra (e (place a)) (map.get m (place a)) (map.get k (place a)) (h (place a))
    (λ none. some 0 (omega arith) (ap e (sym (place_zero a)) ∙ none)) in
    record {
      bytes = here.0 ∷ rest.bytes;
      there = in_front-some (map.get m (place a)) (bytes_at m (a + 1) n) here.0 rest.bytes here.1 rest.there;
    }

pub extra-put : (n : ℕ) (e : Extra) (m k : Memory) (a v : ℕ) → Extends e m k
    → ((i : ℕ) → i < n → e (place (a + i)) ≢ None) → Puts (with_extra e a (low_bytes n v)) m a n v k
extra-put n e m k a v h some =
    let owned = extra-owned n e m k a h some in
    record {
      memory = with_bytes m a (low_bytes n v);
      is = ap (option_map (λ _. with_bytes m a (low_bytes n v))) owned.there;
      extends = with_extra-extends (low_bytes n v) e m k a h (λ i l.
          let q = place (a + i) in
          (byte-extra (e q) (map.get m q) (map.get k q) (h q)
          (some i (subst (λ j. i < j) (low_bytes-length n v) l))).2);
    }

-- ---- ranges

pub extends-free : (bs : List ℕ) (e : Extra) (m k : Memory) (a : ℕ) → Extends e m k → are_free m a bs ≡ true
    → are_free k a bs ≡ true
extends-free bs e m k a h free =
    free_from_none bs k a
    (λ q low high. (byte-free (e q) (map.get m q) (map.get k q) (h q) (free_is_none bs m a q free low high)).1)

pub free-none : (bs : List ℕ) (e : Extra) (m k : Memory) (a : ℕ) → Extends e m k → are_free m a bs ≡ true → (q : ℕ)
    → a ≤ q → q < a + length bs → (e q ≡ None) × (map.get k q ≡ None)
free-none bs e m k a h free q low high =
    byte-free (e q) (map.get m q) (map.get k q) (h q) (free_is_none bs m a q free low high)

pub without-both : (e : Extra) (m k : Memory) (a n : ℕ) → Extends e m k → ((q : ℕ) → a ≤ q → q < a + n → e q ≡ None)
    → Extends e (without_range m a n) (without_range k a n)
without-both e m k a n h none q =
    by_place q a (a + n)
    (λ l. byte-same (e q) (e q) (map.get (without_range m a n) q) (map.get m q) (map.get (without_range k a n) q)
    (map.get k q) refl (get-without_below m a n q l) (get-without_below k a n q l) (h q))
    (λ l r. byte-same (e q) None (map.get (without_range m a n) q) None (map.get (without_range k a n) q) None
    (none q l r) (get-without_in m a n q l r) (get-without_in k a n q l r) (refl, tt))
    (λ l r. byte-same (e q) (e q) (map.get (without_range m a n) q) (map.get m q) (map.get (without_range k a n) q)
    (map.get k q) refl (get-without_above m a n q r) (get-without_above k a n q r) (h q))

-- the extra bytes of a range leave
pub without-own : (e e2 : Extra) (m k : Memory) (a n : ℕ) → Extends e2 m k
    → ((q : ℕ) → a ≤ q → q < a + n → (e2 q ≢ None) × (e q ≡ None)) → ((q : ℕ) → (q < a) ⊎ (a + n ≤ q) → e2 q ≡ e q)
    → Extends e (without_range m a n) k
without-own e e2 m k a n h inside outside q =
    by_place q a (a + n)
    (λ l. byte-same (e q) (e2 q) (map.get (without_range m a n) q) (map.get m q) (map.get k q) (map.get k q)
    (sym (outside q (inl l))) (get-without_below m a n q l) refl (h q))
    (λ l r. let own = inside q l r in
    byte-same (e q) None (map.get (without_range m a n) q) None (map.get k q) None own.1 (get-without_in m a n q l r)
    ((byte-extra (e2 q) (map.get m q) (map.get k q) (h q) own.0).2) (refl, tt))
    (λ l r. byte-same (e q) (e2 q) (map.get (without_range m a n) q) (map.get m q) (map.get k q) (map.get k q)
    (sym (outside q (inr r))) (get-without_above m a n q r) refl (h q))
