-- What is at each place of joined tables.
use Rattle.std.proofs.Common.{◌≡◌, ℕ, zero, suc, ◌+◌, ◌⊎◌, inl, inr, List, [], ◌∷◌, ◌++◌, length}
use Rattle.std.proofs.Common.{map, refl, sym, ap, ◌∙◌, subst, Some, None, Option, slice_get, arith}
use Rattle.std.specs.Prelude.{option_map}
use Rattle.std.proofs.lemmas.List.{map-append, length-append, length-map}
use Rattle.std.proofs.lemmas.Option.{slice_get-map}
use Rattle.wl_sigs.specs.Side.{Side}
use Rattle.wl_sigs.specs.Side.TheVariants.{Request, Event}
use Rattle.wl_sigs.specs.Tables.{MessageSignature, Interface, interface_at, messages_of, message_of, signature_at}
use Rattle.wl_text.specs.Text.{WrittenMessage, WrittenInterface}
use Rattle.wl_sigs.specs.Joined.{all_names, first_place, message_placed, interface_placed, joined}
use Rattle.wl_sigs.specs.Valid.{EachInterface, EachMessage}
use Rattle.wl_sigs.specs.FirstBroken.{written_of}
use Rattle.wl_sigs.proofs.Lookups.{found, signature_from}

-- a place in the second of two lists that are joined
abbrev pub Behind : {X : Type 0} → List X → List X → ℕ → X → Type 0
Behind xs ys k x = (j : ℕ) × (k ≡ length xs + j) × (slice_get ys j ≡ Some x)

pub in_either : {X : Type 0} (xs ys : List X) (k : ℕ) (x : X) → slice_get (xs ++ ys) k ≡ Some x
    → (slice_get xs k ≡ Some x) ⊎ Behind xs ys k x
in_either [] ys k x at = inr (k, omega arith, at)
in_either (y ∷ xs) ys zero x at = inl at
in_either (y ∷ xs) ys (suc k) x at = elim (in_either xs ys k x at) [
  | inl front ↦ inl front
  | inr back ↦ inr (back.0, (let e = back.1 in omega arith), back.2)
]

pub in_front : {X : Type 0} (xs ys : List X) (k : ℕ) (x : X) → slice_get xs k ≡ Some x → slice_get (xs ++ ys) k ≡ Some x
in_front [] ys k x at = cc at
in_front (y ∷ xs) ys zero x at = at
in_front (y ∷ xs) ys (suc k) x at = in_front xs ys k x at

pub mapped_some : {X Y : Type 0} (f : X → Y) (o : Option X) (y : Y) → option_map f o ≡ Some y
    → (x : X) × (o ≡ Some x) × (f x ≡ y)
mapped_some f None y h = cc h
mapped_some f (Some x) y h = (x, refl, cc h)

pub mapped_at : {X Y : Type 0} (f : X → Y) (xs : List X) (k : ℕ) (y : Y) → slice_get (map f xs) k ≡ Some y
    → (x : X) × (slice_get xs k ≡ Some x) × (f x ≡ y)
mapped_at f xs k y at = mapped_some f (slice_get xs k) y (sym (slice_get-map f xs k) ∙ at)

-- an interface of a text as it is in the tables, with its names looked up
abbrev pub placing : List Interface → List WrittenInterface → WrittenInterface → Interface
placing tables written = let names = all_names tables written in interface_placed (first_place names) (length names)

abbrev pub placing_message : List Interface → List WrittenInterface → WrittenMessage → MessageSignature
placing_message tables written = let names = all_names tables written
    in message_placed (first_place names) (length names)

-- an interface of the joined tables that comes from the text
pub record Brought (tables : List Interface) (written : List WrittenInterface) (place : ℕ)
    (i : Interface) : Type 0 where
  pub index : ℕ
  pub from : WrittenInterface
  pub at : slice_get written index ≡ Some from
  pub place_is : place ≡ length tables + index
  pub is : placing tables written from ≡ i

pub either_interface : (tables : List Interface) (written : List WrittenInterface) (place : ℕ) (i : Interface)
    → interface_at (joined tables written) place ≡ Some i
    → (interface_at tables place ≡ Some i) ⊎ Brought tables written place i
either_interface tables written place i at = elim (in_either tables (map (placing tables written) written) place i at) [
  | inl front ↦ inl front
  | inr back ↦
      let w = mapped_at (placing tables written) written back.0 i back.2 in
      inr (record { index = back.0; from = w.0; at = w.1; place_is = back.1; is = w.2 })
]

-- what holds for the interfaces of the tables and of the text holds for those of the joined tables
pub each_interface : (P : Interface → Type 0) (tables : List Interface) (written : List WrittenInterface)
    → EachInterface tables P
    → ((k : ℕ) (w : WrittenInterface) → slice_get written k ≡ Some w → P (placing tables written w))
    → EachInterface (joined tables written) P
each_interface P tables written old new place i at = elim (either_interface tables written place i at) [
  | inl front ↦ old place i front
  | inr b ↦ subst P b.is (new b.index b.from b.at)
]

pub placed_messages : (tables : List Interface) (written : List WrittenInterface) (side : Side) (w : WrittenInterface)
    → messages_of side (placing tables written w) ≡ map (placing_message tables written) (written_of side w)
placed_messages tables written Request w = refl
placed_messages tables written Event w = refl

-- a message of the joined tables that comes from the text
pub record BroughtMessage (tables : List Interface) (written : List WrittenInterface) (place : ℕ) (side : Side)
    (opcode : ℕ) (m : MessageSignature) : Type 0 where
  pub index : ℕ
  pub interface : WrittenInterface
  pub at : slice_get written index ≡ Some interface
  pub place_is : place ≡ length tables + index
  pub from : WrittenMessage
  pub of : slice_get (written_of side interface) opcode ≡ Some from
  pub is : placing_message tables written from ≡ m

pub either_message : (tables : List Interface) (written : List WrittenInterface) (place : ℕ) (side : Side) (opcode : ℕ)
    (m : MessageSignature)
    → signature_at (joined tables written) place side opcode ≡ Some m
    → (signature_at tables place side opcode ≡ Some m) ⊎ BroughtMessage tables written place side opcode m
either_message tables written place side opcode m h =
    let witness = found (joined tables written) place side opcode m h in
    elim (either_interface tables written place witness.interface witness.at) [
      | inl front ↦ inl (signature_from tables place side opcode witness.interface m front witness.of)
      | inr b ↦
          let of : message_of side opcode (placing tables written b.from) ≡ Some m =
          subst (λ x. message_of side opcode x ≡ Some m) (sym b.is) witness.of in
          let of' : slice_get (map (placing_message tables written) (written_of side b.from)) opcode ≡ Some m =
          subst (λ ms. slice_get ms opcode ≡ Some m) (placed_messages tables written side b.from) of in
          let n = mapped_at (placing_message tables written) (written_of side b.from) opcode m of' in
          inr (record {
            index = b.index;
            interface = b.from;
            at = b.at;
            place_is = b.place_is;
            from = n.0;
            of = n.1;
            is = n.2;
          })
    ]

-- what holds for the messages of the tables and of the text holds for those of the joined tables
pub each_message : (P : MessageSignature → Type 0) (tables : List Interface) (written : List WrittenInterface)
    (side : Side)
    → EachMessage tables side P
    → ((k : ℕ) (w : WrittenInterface) (o : ℕ) (m : WrittenMessage) → slice_get written k ≡ Some w
    → slice_get (written_of side w) o ≡ Some m → P (placing_message tables written m))
    → EachMessage (joined tables written) side P
each_message P tables written side old new place opcode m h =
    elim (either_message tables written place side opcode m h) [
      | inl front ↦ old place opcode m front
      | inr b ↦ subst P b.is (new b.index b.interface opcode b.from b.at b.of)
    ]

-- the names of joined tables
placed_names : (tables : List Interface) (all written : List WrittenInterface)
    → map (λ i. i.name) (map (placing tables all) written) ≡ map (λ i. i.name) written
placed_names tables all [] = refl
placed_names tables all (w ∷ written) = ap (λ (names : List (List ℕ)). w.name ∷ names) (placed_names tables all written)

pub names_joined : (tables : List Interface) (written : List WrittenInterface)
    → map (λ i. i.name) (joined tables written) ≡ all_names tables written
names_joined tables written =
    map-append (λ (i : Interface). i.name) tables (map (placing tables written) written)
    ∙ ap (λ (names : List (List ℕ)). map (λ i. i.name) tables ++ names) (placed_names tables written written)

pub length_joined : (tables : List Interface) (written : List WrittenInterface)
    → length (joined tables written) ≡ length tables + length written
length_joined tables written = omega (
  arith,
  length-append tables
      (map (placing tables written) written),
  length-map written (placing tables written),
)

pub length_names : (tables : List Interface) (written : List WrittenInterface)
    → length (all_names tables written) ≡ length tables + length written
length_names tables written =
    omega (
      arith,
      length-append (map (λ (i : Interface). i.name) tables)
          (map (λ (i : WrittenInterface). i.name) written),
      length-map tables
          (λ (i : Interface). i.name),
      length-map written (λ (i : WrittenInterface). i.name),
    )
