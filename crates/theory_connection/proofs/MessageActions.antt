-- Which message an action comes from, and what messages make: lemmas on lists, on the actions of the
-- messages in one, and on the objects that requests and events make.
use Rattle.std.proofs.Common.{◌++◌, ◌∷◌, [], ◌≡◌, List, map, ◌⊎◌, inl, inr, refl, sym, ◌∙◌, ap, subst}
use Rattle.std.specs.Prelude.{option_map}
use Rattle.std.specs.declared.option.Option.{Option}
use Rattle.std.specs.declared.option.Option.TheVariants.{None, Some}
use Rattle.theory_connection.specs.Meant.{Born, Known, Message, Coming, Event, Delete as delete_of, renamed}
use Rattle.theory_connection.specs.Meant.{recoming, born_of, birth_of, objects, made_in, rearg}
use Rattle.theory_connection.specs.World.{World, Each}
use Rattle.theory_connection.specs.Flight.{Ask, Use, Make, Destroy, Tell, Name, Made, Delete, asks, make_tell}
use Rattle.theory_connection.specs.Flight.{tells, all_asks, all_tells, make_ask, destroy_ask, ends}
use Rattle.theory_connection.specs.Plain.{In, MakeComes, MessageNames, option_list, news, news_told}
use Rattle.theory_connection.proofs.RowsAfterMessage.{made_map}
use Rattle.theory_connection.proofs.WholeInFlight.{all_tells_more}
use Rattle.std.proofs.lemmas.List.{map-append, append_assoc, append-nil}
use Rattle.theory_connection.proofs.OfServer.{mades, makes, birth_known}

-- ---- lists

pub in_left : {X : Type 0} (x : X) (xs ys : List X) → In x xs → In x (xs ++ ys)
in_left x [] ys h = absurd h
in_left x (z ∷ xs) ys h = elim h [ inl p ↦ inl p | inr p ↦ inr (in_left x xs ys p) ]

pub in_right : {X : Type 0} (x : X) (xs ys : List X) → In x ys → In x (xs ++ ys)
in_right x [] ys h = h
in_right x (z ∷ xs) ys h = inr (in_right x xs ys h)

pub in_either : {X : Type 0} (x : X) (xs ys : List X) → In x (xs ++ ys) → In x xs ⊎ In x ys
in_either x [] ys h = inr h
in_either x (z ∷ xs) ys h = elim h [
  | inl p ↦ inl (inl p)
  | inr p ↦ elim
      (in_either x xs ys p) [ inl q ↦ inl (inr q) | inr q ↦ inr q ]
]

pub in_map : {X Y : Type 0} (f : X → Y) (x : X) (xs : List X) → In x xs → In (f x) (map f xs)
in_map f x [] h = absurd h
in_map f x (z ∷ xs) h = elim h [ inl p ↦ inl (ap f p) | inr p ↦ inr (in_map f x xs p) ]

-- the elements of a mapped list
pub record From {X Y : Type 0} (f : X → Y) (y : Y) (xs : List X) : Type 0 where
  pub item : X
  pub there : In item xs
  pub is : f item ≡ y

pub from_map : {X Y : Type 0} (f : X → Y) (y : Y) (xs : List X) → In y (map f xs) → From f y xs
from_map f y [] h = absurd h
from_map f y (x ∷ xs) h = elim h [
  | inl p ↦ record { item = x; there = inl refl; is = sym p }
  | inr p ↦ (let k = from_map f y xs p in record { item = k.item; there = inr k.there; is = k.is })
]

pub each_in : {X : Type 0} (P : X → Type 0) (x : X) (xs : List X) → Each P xs → In x xs → P x
each_in P x [] h i = absurd i
each_in P x (z ∷ xs) h i = elim i [ inl p ↦ subst P (sym p) h.0 | inr p ↦ each_in P x xs h.1 p ]

-- a list whose image is split at one of its items
pub record Parted {X Y : Type 0} (f : X → Y) (xs : List X) (before : List Y) (y : Y) (after : List Y) : Type 0 where
  pub front : List X
  pub item : X
  pub rest : List X
  pub whole : xs ≡ front ++ item ∷ rest
  pub front_is : map f front ≡ before
  pub item_is : f item ≡ y
  pub rest_is : map f rest ≡ after

pub parted : {X Y : Type 0} (f : X → Y) (xs : List X) (before : List Y) (y : Y) (after : List Y)
    → map f xs ≡ before ++ y ∷ after → Parted f xs before y after
parted f [] [] y after h = absurd (cc h)
parted f [] (b ∷ before) y after h = absurd (cc h)
parted f (x ∷ xs) [] y after h =
    record { front = []; item = x; rest = xs; whole = refl; front_is = refl; item_is = cc h; rest_is = cc h }
parted f (x ∷ xs) (b ∷ before) y after h =
    let k = parted f xs before y after (cc h) in
    let first : f x ≡ b = cc h in
    record {
      front = x ∷ k.front;
      item = k.item;
      rest = k.rest;
      whole = ap (λ (l : List _). x ∷ l) k.whole;
      front_is = λ i. first i ∷ k.front_is i;
      item_is = k.item_is;
      rest_is = k.rest_is;
    }

-- ---- messages and their actions

pub delete_of_tells : (k : Known) (told : List (Coming Known)) → In (Delete k) (all_tells told) → In (delete_of k) told
delete_of_tells k [] h = absurd h
delete_of_tells k (c ∷ told) h = elim (in_either (Delete k) (tells c) (all_tells told) h)
    [ inl p ↦ inl (of_one c p) | inr p ↦ inr (delete_of_tells k told p) ]
  where
    of_names : (xs : List Known) → In (Delete k) (map Name xs) → ⊥
    of_names [] i = i
    of_names (x ∷ xs) i = elim i [ inl p ↦ cc p | inr p ↦ of_names xs p ]

    of_ends : (o : Option Known) → In (Delete k) (ends o) → ⊥
    of_ends None i = i
    of_ends (Some x) i = elim i [ inl p ↦ cc p | inr p ↦ p ]

    of_made : (o : Option Known) → In (Delete k) (make_tell o) → ⊥
    of_made None i = i
    of_made (Some x) i = elim i [ inl p ↦ cc p | inr p ↦ p ]

    of_one : (d : Coming Known) → In (Delete k) (tells d) → delete_of k ≡ d
    of_one (Event m) i = elim i [
      | inl p ↦ absurd (cc p)
      | inr p ↦ elim (in_either (Delete k) (map Name (objects m.args)) (make_tell (made_in m.args) ++ ends m.ends) p) [
        | inl q ↦ absurd (of_names (objects m.args) q)
        | inr q ↦ elim (in_either (Delete k) (make_tell (made_in m.args)) (ends m.ends) q)
            [ inl r ↦ absurd (of_made (made_in m.args) r) | inr r ↦ absurd (of_ends m.ends r) ]
      ]
    ]
    of_one (delete_of x) i = elim i [ inl p ↦ (let e : k ≡ x = cc p in ap delete_of e) | inr p ↦ absurd p ]

pub tells_in : (t : Tell) (c : Coming Known) (told : List (Coming Known)) → In c told → In t (tells c)
    → In t (all_tells told)
tells_in t c [] h i = absurd h
tells_in t c (d ∷ told) h i = elim h [
  | inl p ↦ in_left t (tells d) (all_tells told) (subst (λ (e : Coming Known). In t (tells e)) p i)
  | inr p ↦ in_right t (tells d) (all_tells told) (tells_in t c told p i)
]

-- the message of an action
pub record Asking (P : Message Known → Type 0) (asked : List (Message Known)) : Type 0 where
  pub message : Message Known
  pub there : In message asked
  pub is : P message

pub asks_in : (a : Ask) (P : Message Known → Type 0) → ((m : Message Known) → In a (asks m) → P m)
    → (asked : List (Message Known)) → In a (all_asks asked) → Asking P asked
asks_in a P f [] h = absurd h
asks_in a P f (m ∷ asked) h = elim (in_either a (asks m) (all_asks asked) h) [
  | inl p ↦ record { message = m; there = inl refl; is = f m p }
  | inr p ↦ (let k = asks_in a P f asked p in record { message = k.message; there = inr k.there; is = k.is })
]

pub in_asks : (a : Ask) (m : Message Known) (asked : List (Message Known)) → In m asked → In a (asks m)
    → In a (all_asks asked)
in_asks a m [] h i = absurd h
in_asks a m (n ∷ asked) h i = elim h [
  | inl p ↦ in_left a (asks n) (all_asks asked) (subst (λ (e : Message Known). In a (asks e)) p i)
  | inr p ↦ in_right a (asks n) (all_asks asked) (in_asks a m asked p i)
]

-- the action is a use
abbrev pub IsUse : Ask → Type 0
IsUse (Use x) = Unit {0}
IsUse _ = ⊥

pub uses : (a : Ask) (xs : List Known) → In a (map Use xs) → IsUse a
uses a [] i = absurd i
uses a (x ∷ xs) i = elim i [ inl p ↦ subst IsUse (sym p) tt | inr p ↦ uses a xs p ]

pub make_asked : (k : Known) (m : Message Known) → In (Make k) (asks m) → made_in m.args ≡ Some k
make_asked k m i = elim i [
  | inl p ↦ absurd (cc p)
  | inr p ↦ elim (in_either (Make k) (map Use (objects m.args)) (make_ask (made_in m.args) ++ destroy_ask m.ends) p) [
    | inl q ↦ absurd (uses (Make k) (objects m.args) q)
    | inr q ↦ elim (in_either (Make k) (make_ask (made_in m.args)) (destroy_ask m.ends) q)
        [ inl r ↦ of_made (made_in m.args) r | inr r ↦ absurd (of_destroyed m.ends r) ]
  ]
]
  where
    of_made : (o : Option Known) → In (Make k) (make_ask o) → o ≡ Some k
    of_made None j = absurd j
    of_made (Some x) j = elim j [ inl p ↦ (let e : k ≡ x = cc p in ap Some (sym e)) | inr p ↦ absurd p ]

    of_destroyed : (o : Option Known) → In (Make k) (destroy_ask o) → ⊥
    of_destroyed None j = j
    of_destroyed (Some x) j = elim j [ inl p ↦ cc p | inr p ↦ p ]

pub destroy_asked : (k : Known) (m : Message Known) → In (Destroy k) (asks m) → m.ends ≡ Some k
destroy_asked k m i = elim i [
  | inl p ↦ absurd (cc p)
  | inr p ↦ elim (in_either (Destroy k) (map Use (objects m.args)) (make_ask (made_in m.args) ++ destroy_ask m.ends) p) [
    | inl q ↦ absurd (uses (Destroy k) (objects m.args) q)
    | inr q ↦ elim (in_either (Destroy k) (make_ask (made_in m.args)) (destroy_ask m.ends) q)
        [ inl r ↦ absurd (of_made (made_in m.args) r) | inr r ↦ of_destroyed m.ends r ]
  ]
]
  where
    of_made : (o : Option Known) → In (Destroy k) (make_ask o) → ⊥
    of_made None j = j
    of_made (Some x) j = elim j [ inl p ↦ cc p | inr p ↦ p ]

    of_destroyed : (o : Option Known) → In (Destroy k) (destroy_ask o) → o ≡ Some k
    of_destroyed None j = absurd j
    of_destroyed (Some x) j = elim j [ inl p ↦ (let e : k ≡ x = cc p in ap Some (sym e)) | inr p ↦ absurd p ]

pub asked_make : (k : Known) (m : Message Known) → made_in m.args ≡ Some k → In (Make k) (asks m)
asked_make k m e =
    inr (in_right (Make k) (map Use (objects m.args)) (make_ask (made_in m.args) ++ destroy_ask m.ends)
    (in_left (Make k) (make_ask (made_in m.args)) (destroy_ask m.ends)
    (subst (λ (o : Option Known). In (Make k) (make_ask o)) (sym e) (inl refl))))

pub asked_destroy : (k : Known) (m : Message Known) → m.ends ≡ Some k → In (Destroy k) (asks m)
asked_destroy k m e =
    inr (in_right (Destroy k) (map Use (objects m.args)) (make_ask (made_in m.args) ++ destroy_ask m.ends)
    (in_right (Destroy k) (make_ask (made_in m.args)) (destroy_ask m.ends)
    (subst (λ (o : Option Known). In (Destroy k) (destroy_ask o)) (sym e) (inl refl))))

-- ---- the objects that requests on the way make

pub one_listed : {O : Type 0} (x : O) (o : Option O) → In x (option_list o) → o ≡ Some x
one_listed x None i = absurd i
one_listed x (Some y) i = elim i [ inl a ↦ ap Some (sym a) | inr a ↦ absurd a ]

-- the request that makes the object
pub record MakerOf {O : Type 0} (x : O) (ms : List (Message O)) : Type 0 where
  pub message : Message O
  pub there : In message ms
  pub makes_it : made_in message.args ≡ Some x

pub maker : {O : Type 0} (x : O) (ms : List (Message O)) → In x (news ms) → MakerOf x ms
maker x [] i = absurd i
maker x (m ∷ ms) i = elim (in_either x (option_list (made_in m.args)) (news ms) i) [
  | inl a ↦ record { message = m; there = inl refl; makes_it = one_listed x (made_in m.args) a }
  | inr a ↦ (let k = maker x ms a in record { message = k.message; there = inr k.there; makes_it = k.makes_it })
]

pub made_news : {O : Type 0} (x : O) (m : Message O) (ms : List (Message O)) → In m ms → made_in m.args ≡ Some x
    → In x (news ms)
made_news x m [] i e = absurd i
made_news x m (n ∷ ms) i e = elim i [
  | inl a ↦ in_left x (option_list (made_in n.args)) (news ms)
      (subst (λ k. In x (option_list k)) (sym e ∙ ap (λ k. made_in k.args) a) (inl refl))
  | inr a ↦ in_right x (option_list (made_in n.args)) (news ms) (made_news x m ms a e)
]

pub news_made : (x : Known) (asked : List (Message Known)) → In x (news asked) → In (Make x) (all_asks asked)
news_made x asked i = let k = maker x asked i in in_asks (Make x) k.message asked k.there
    (asked_make x k.message k.makes_it)

pub comes_news : {w : World} (x : Born) → MakeComes w x → In x (news w.requests)
comes_news {w} x h = made_news x h.request w.requests h.there h.makes

pub news_comes : {w : World} (x : Born) → In x (news w.requests) → MakeComes w x
news_comes {w} x i = let k = maker x w.requests i in record { request = k.message; there = k.there; makes = k.makes_it }

-- ---- events and what they make

-- the action is a naming
abbrev pub IsName : Tell → Type 0
IsName (Name x) = Unit {0}
IsName _ = ⊥

pub names : (t : Tell) (xs : List Known) → In t (map Name xs) → IsName t
names t [] i = absurd i
names t (x ∷ xs) i = elim i [ inl p ↦ subst IsName (sym p) tt | inr p ↦ names t xs p ]

pub made_told : (k : Known) (m : Message Known) → In (Made k) (tells (Event m)) → made_in m.args ≡ Some k
made_told k m i = elim i [
  | inl p ↦ absurd (cc p)
  | inr p ↦ elim (in_either (Made k) (map Name (objects m.args)) (make_tell (made_in m.args) ++ ends m.ends) p) [
    | inl q ↦ absurd (names (Made k) (objects m.args) q)
    | inr q ↦ elim (in_either (Made k) (make_tell (made_in m.args)) (ends m.ends) q)
        [ inl r ↦ of_made (made_in m.args) r | inr r ↦ absurd (of_ends m.ends r) ]
  ]
]
  where
    of_made : (o : Option Known) → In (Made k) (make_tell o) → o ≡ Some k
    of_made None j = absurd j
    of_made (Some x) j = elim j [ inl p ↦ (let e : k ≡ x = cc p in ap Some (sym e)) | inr p ↦ absurd p ]

    of_ends : (o : Option Known) → In (Made k) (ends o) → ⊥
    of_ends None j = j
    of_ends (Some x) j = elim j [ inl p ↦ cc p | inr p ↦ p ]

pub told_made : (k : Known) (m : Message Known) → made_in m.args ≡ Some k → In (Made k) (tells (Event m))
told_made k m e =
    inr (in_right (Made k) (map Name (objects m.args)) (make_tell (made_in m.args) ++ ends m.ends)
    (in_left (Made k) (make_tell (made_in m.args)) (ends m.ends)
    (subst (λ (o : Option Known). In (Made k) (make_tell o)) (sym e) (inl refl))))

pub use_asked : (k : Known) (m : Message Known) → In k (objects m.args) → In (Use k) (asks m)
use_asked k m i = inr (in_left (Use k) (map Use (objects m.args)) (make_ask (made_in m.args) ++ destroy_ask m.ends)
    (in_map Use k (objects m.args) i))

-- a list split at one of its items
pub record Split {X : Type 0} (x : X) (xs : List X) : Type 0 where
  pub front : List X
  pub back : List X
  pub whole : xs ≡ front ++ x ∷ back

pub split_at : {X : Type 0} (x : X) (xs : List X) → In x xs → Split x xs
split_at x [] i = absurd i
split_at x (y ∷ ys) i = elim i [
  | inl p ↦ record { front = []; back = ys; whole = λ n. sym p n ∷ ys }
  | inr p ↦ (let k = split_at x ys p in record { front = y ∷ k.front; back = k.back; whole = λ n. y ∷ k.whole n })
]

-- an action that names an object, after those of the messages before and other names of its event
pub record NamedAt (k : Known) (front told : List (Coming Known)) : Type 0 where
  pub names_before : List Known
  pub rest : List Tell
  pub whole : all_tells told ≡ (all_tells front ++ map Name names_before) ++ (Name k ∷ rest)

regroup : (es : List Tell) (t : Known) (us : List Known) (k : Known) (ws xs : List Known) (others rest : List Tell)
    → xs ≡ us ++ k ∷ ws
    → es ++ ((Name t ∷ (map Name xs ++ others)) ++ rest)
    ≡ (es ++ map Name (t ∷ us)) ++ (Name k ∷ ((map Name ws ++ others) ++ rest))
regroup es t us k ws xs others rest e =
    ap (λ (l : List Known). es ++ ((Name t ∷ (map Name l ++ others)) ++ rest)) e
    ∙ ap (λ (l : List Tell). es ++ ((Name t ∷ (l ++ others)) ++ rest)) (map-append Name us (k ∷ ws))
    ∙ ap (λ (l : List Tell). es ++ (Name t ∷ (l ++ rest))) (append_assoc (map Name us) (Name k ∷ map Name ws) others)
    ∙ ap (λ (l : List Tell). es ++ (Name t ∷ l)) (append_assoc (map Name us) (Name k ∷ (map Name ws ++ others)) rest)
    ∙ sym (append_assoc es (map Name (t ∷ us)) (Name k ∷ ((map Name ws ++ others) ++ rest)))

-- an object that an event names is named by one of its actions
pub named_at : (k : Known) (front : List (Coming Known)) (m : Message Known) (back told : List (Coming Known))
    → told ≡ front ++ Event m ∷ back → MessageNames k m → NamedAt k front told
named_at k front m back told q n =
    let others = make_tell (made_in m.args) ++ ends m.ends in
    let whole : all_tells told ≡ all_tells front ++ (tells (Event m) ++ all_tells back) =
    ap all_tells q ∙ all_tells_more front (Event m ∷ back) in
    elim n [
      | inl a ↦ record {
        names_before = [];
        rest = (map Name (objects m.args) ++ others) ++ all_tells back;
        whole = whole
            ∙ ap (λ (l : List Tell). l ++ (tells (Event m) ++ all_tells back)) (sym (append-nil (all_tells front)))
            ∙ ap (λ (t : Known). (all_tells front ++ []) ++ (Name t ∷ ((map Name (objects m.args) ++ others)
            ++ all_tells back))) a;
      }
      | inr a ↦ (let p = split_at k (objects m.args) a in
          record {
            names_before = m.target ∷ p.front;
            rest = (map Name p.back ++ others) ++ all_tells back;
            whole = whole ∙ regroup (all_tells front) m.target p.front k p.back (objects m.args) others (all_tells back)
                p.whole;
          })
    ]

-- the objects that messages make, action by action
pub mades_both : (es fs : List Tell) → mades (es ++ fs) ≡ mades es ++ mades fs
mades_both [] fs = refl
mades_both (Made x ∷ es) fs = ap (λ (l : List Known). x ∷ l) (mades_both es fs)
mades_both (t ∷ es) fs = mades_both es fs

pub mades_names : (xs : List Known) (es : List Tell) → mades (map Name xs ++ es) ≡ mades es
mades_names [] es = refl
mades_names (x ∷ xs) es = mades_names xs es

pub mades_made : (n o : Option Known) → mades (make_tell n ++ ends o) ≡ option_list n
mades_made None None = refl
mades_made None (Some x) = refl
mades_made (Some y) None = refl
mades_made (Some y) (Some x) = refl

pub mades_told : (told : List (Coming Known)) → mades (all_tells told) ≡ news_told told
mades_told [] = refl
mades_told (Event m ∷ told) = mades_both (tells (Event m)) (all_tells told)
    ∙ (λ i. (mades_names (objects m.args) (make_tell (made_in m.args) ++ ends m.ends) ∙ mades_made (made_in m.args) m.ends) i
    ++ mades_told told i)
mades_told (delete_of x ∷ told) = mades_told told

-- the actions before the name of an object make the objects of the earlier messages
pub mades_front : (front : List (Coming Known)) (xs : List Known)
    → mades (all_tells front ++ map Name xs) ≡ news_told front
mades_front front xs = mades_both (all_tells front) (map Name xs)
    ∙ (λ i. mades_told front i ++ none xs i) ∙ append-nil (news_told front)
  where
    none : (xs : List Known) → mades (map Name xs) ≡ []
    none [] = refl
    none (x ∷ xs) = none xs

pub makes_both : (qs rs : List Ask) → makes (qs ++ rs) ≡ makes qs ++ makes rs
makes_both [] rs = refl
makes_both (Make x ∷ qs) rs = ap (λ (l : List Known). x ∷ l) (makes_both qs rs)
makes_both (a ∷ qs) rs = makes_both qs rs

pub makes_uses : (xs : List Known) (qs : List Ask) → makes (map Use xs ++ qs) ≡ makes qs
makes_uses [] qs = refl
makes_uses (x ∷ xs) qs = makes_uses xs qs

pub makes_made : (n o : Option Known) → makes (make_ask n ++ destroy_ask o) ≡ option_list n
makes_made None None = refl
makes_made None (Some x) = refl
makes_made (Some y) None = refl
makes_made (Some y) (Some x) = refl

pub makes_asked : (asked : List (Message Known)) → makes (all_asks asked) ≡ news asked
makes_asked [] = refl
makes_asked (m ∷ asked) = makes_both (asks m) (all_asks asked)
    ∙ (λ i. (makes_uses (objects m.args) (make_ask (made_in m.args) ++ destroy_ask m.ends)
    ∙ makes_made (made_in m.args) m.ends) i ++ makes_asked asked i)

-- the objects that are made have the same births in the world
pub births_listed : (n : Option Known) → map birth_known (option_list n) ≡ map birth_of (option_list (option_map born_of n))
births_listed None = refl
births_listed (Some x) = refl

pub births_told_world : (told : List (Coming Known))
    → map birth_known (news_told told) ≡ map birth_of (news_told (map (recoming born_of) told))
births_told_world [] = refl
births_told_world (Event m ∷ told) =
    map-append birth_known (option_list (made_in m.args)) (news_told told)
    ∙ (λ i. (births_listed (made_in m.args)
    ∙ ap (λ (n : Option Born). map birth_of (option_list n)) (sym (made_map born_of m.args))) i
    ++ births_told_world told i)
    ∙ sym (map-append birth_of (option_list (made_in (map (rearg born_of) m.args))) (news_told (map (recoming born_of) told)))
births_told_world (delete_of x ∷ told) = births_told_world told

pub births_asked_world : (asked : List (Message Known))
    → map birth_known (news asked) ≡ map birth_of (news (map (renamed born_of) asked))
births_asked_world [] = refl
births_asked_world (m ∷ asked) =
    map-append birth_known (option_list (made_in m.args)) (news asked)
    ∙ (λ i. (births_listed (made_in m.args)
    ∙ ap (λ (n : Option Born). map birth_of (option_list n)) (sym (made_map born_of m.args))) i
    ++ births_asked_world asked i)
    ∙ sym (map-append birth_of (option_list (made_in (map (rearg born_of) m.args))) (news (map (renamed born_of) asked)))

-- the event that makes the object
pub record Telling {O : Type 0} (x : O) (told : List (Coming O)) : Type 0 where
  pub event : Message O
  pub there : In (Event event) told
  pub makes_it : made_in event.args ≡ Some x

pub makes_in : (k : Known) (told : List (Coming Known)) → In (Made k) (all_tells told) → Telling k told
makes_in k [] h = absurd h
makes_in k (Event m ∷ told) h = elim (in_either (Made k) (tells (Event m)) (all_tells told) h) [
  | inl p ↦ record { event = m; there = inl refl; makes_it = made_told k m p }
  | inr p ↦ (let e = makes_in k told p in record { event = e.event; there = inr e.there; makes_it = e.makes_it })
]
makes_in k (delete_of x ∷ told) h = elim h [
  | inl p ↦ absurd (cc p)
  | inr p ↦ (let e = makes_in k told p in record { event = e.event; there = inr e.there; makes_it = e.makes_it })
]

-- an object that events make is made by one of them
pub listed_news : {O : Type 0} (x : O) (told : List (Coming O)) → In x (news_told told) → Telling x told
listed_news x [] i = absurd i
listed_news x (Event m ∷ told) i = elim (in_either x (option_list (made_in m.args)) (news_told told) i) [
  | inl a ↦ record { event = m; there = inl refl; makes_it = one_listed x (made_in m.args) a }
  | inr a ↦ (let k = listed_news x told a in record { event = k.event; there = inr k.there; makes_it = k.makes_it })
]
listed_news x (delete_of y ∷ told) i =
    let k = listed_news x told i in record { event = k.event; there = inr k.there; makes_it = k.makes_it }

pub news_listed : {O : Type 0} (x : O) (m : Message O) (told : List (Coming O)) → In (Event m) told
    → made_in m.args ≡ Some x → In x (news_told told)
news_listed x m [] i e = absurd i
news_listed x m (Event n ∷ told) i e = elim i [
  | inl a ↦ (let same : m ≡ n = cc a in in_left x (option_list (made_in n.args)) (news_told told)
      (subst (λ k. In x (option_list k)) (sym e ∙ ap (λ k. made_in k.args) same) (inl refl)))
  | inr a ↦ in_right x (option_list (made_in n.args)) (news_told told) (news_listed x m told a e)
]
news_listed x m (delete_of y ∷ told) i e = elim i [ inl a ↦ absurd (cc a) | inr a ↦ news_listed x m told a e ]
