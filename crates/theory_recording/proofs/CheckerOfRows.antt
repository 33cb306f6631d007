-- A checker that knows these rows finds what the next recorded message names and makes.
use Rattle.std.proofs.Common.{◌≡◌, ℕ, ◌+◌, true, false, List, inl, inr, refl, ap, ◌∙◌, arith, subst}
use Rattle.std.specs.Prelude.{option_map, nat_eq, nat_le}
use Rattle.std.specs.declared.option.Option.TheVariants.{None, Some}
use Rattle.std.proofs.lemmas.Bool.Decides.{nat_tests}
use Rattle.wl_sigs.specs.Tables.{Interface}
use Rattle.wl_objects.specs.declared.lookup.NewId.TheVariants.{Free}
use Rattle.wl_objects.specs.Reading.{Reader}
use Rattle.wl_recording.specs.declared.piece.Direction.TheVariants.{ToServer, ToClient}
use Rattle.wl_check.specs.Places.{KnownAtPlace as Knows}
use Rattle.wl_check.specs.Rules.{reader_by, if_open}
use Rattle.theory_connection.specs.Meant.{Known, Arg, new_object_in, made_in}
use Rattle.theory_connection.specs.World.{Row, Open, Ending, Each, IfThere}
use Rattle.std.specs.declared.option.Option.{Option}
use Rattle.wl_sigs.specs.Side.{Side}
use Rattle.wl_sigs.specs.Side.TheVariants.{Request, Event}
use Rattle.wl_object_map.specs.declared.object.Maker.{Maker}
use Rattle.wl_object_map.specs.Ranges.{first_server_id, max_server_id}
use Rattle.wl_object_map.specs.ObjectsLaws.{is_from}
use Rattle.wl_objects.specs.Messages.{waits_for_request}
use Rattle.theory_connection.specs.Flight.{Rows, IsHeldInRows, Fresh, NextTold}
use Rattle.theory_connection.proofs.EndedObject.{if_by}
use Rattle.theory_connection.proofs.WholeInFlight.{OpenRow, each_by}
use Rattle.theory_connection.proofs.ReadAsMeant.{HasObject, new_id_for}
use Rattle.theory_recording.specs.Follows.{KnownAs, entry_at}

-- the checker has an object that a request names
pub open_known : (tables : List Interface) (k : Knows) (places : Maker → List ℕ) (here : Rows Row) (x : Known) → KnownAs k places here → OpenRow here x
    → HasObject (reader_by tables k ToServer) x
open_known tables k places here x a h = record {
  entry = entry_at places (Open x.born);
  there = ap if_open (a.objects x.id ∙ ap (option_map (entry_at places)) h);
  iface = refl;
  version = refl;
}

-- the checker has an object that an event names
pub held_known : (tables : List Interface) (k : Knows) (places : Maker → List ℕ) (here : Rows Row) (x : Known) → KnownAs k places here
    → IsHeldInRows here x
    → HasObject (reader_by tables k ToClient) x
held_known tables k places here x a (inl h) = record {
  entry = entry_at places (Open x.born);
  there = a.objects x.id ∙ ap (option_map (entry_at places)) h;
  iface = refl;
  version = refl;
}
held_known tables k places here x a (inr h) = record {
  entry = entry_at places (Ending x.born);
  there = a.objects x.id ∙ ap (option_map (entry_at places)) h;
  iface = refl;
  version = refl;
}

-- the id of a new object of the client is free to the checker
fresh_known : (tables : List Interface) (k : Knows) (places : Maker → List ℕ) (here : Rows Row) (x : Known) → KnownAs k places here → Fresh here x
    → (reader_by tables k ToServer).new_id x.id ≡ Free
fresh_known tables k places here x a f =
    let none : k.object x.id ≡ None = a.objects x.id ∙ ap (option_map (entry_at places)) f.free in
    let zero : nat_eq x.id 0 ≡ false = (let s = f.some in grind (arith, nat_tests)) in
    let next : nat_le x.id (k.used + 1) ≡ true = (let n = f.next in let u = a.used in grind (arith, nat_tests)) in
    let low : nat_le x.id 1048576 ≡ true = (let l = f.low in grind (arith, nat_tests)) in
    rw (zero, none, next, low) refl

not_waiting : (tables : List Interface) (k : Knows) (places : Maker → List ℕ) (here : Rows Row) (x : Known)
    → KnownAs k places here → NextTold here x → waits_for_request tables (k.object x.id) ≡ false
not_waiting tables k places here x a f = by_row (here.rows x.id) refl
  where
    by_row : (o : Option Row) → here.rows x.id ≡ o → waits_for_request tables (k.object x.id) ≡ false
    by_row None l = ap (waits_for_request tables) (a.objects x.id ∙ ap (option_map (entry_at places)) l)
    by_row (Some (Open b)) l = absurd (f.not_open b l)
    by_row (Some (Ending b)) l = ap (waits_for_request tables) (a.objects x.id ∙ ap (option_map (entry_at places)) l)

-- the id of a new object of the server is free to the checker
pub told_known : (tables : List Interface) (k : Knows) (places : Maker → List ℕ) (here : Rows Row) (x : Known)
    → KnownAs k places here → NextTold here x
    → (reader_by tables k ToClient).new_server_id x.id ≡ Free
told_known tables k places here x a f =
    let from = is_from x.id f.range in
    let wait = not_waiting tables k places here x a f in
    let next = f.next in
    let used = a.next in
    let low = f.low in
    let near : nat_le x.id (first_server_id + k.server_used) ≡ true = grind (arith, nat_tests, next, used) in
    let top : nat_le x.id max_server_id ≡ true = grind (arith, nat_tests, low) in
    rw (wait, near, top, f.range) refl

-- the id of an argument's new object is free
abbrev IsFree : Side → Reader → Arg Known → Type 0
IsFree side r a = IfThere (λ x. new_id_for side r x.id ≡ Free) (new_object_in a)

-- the arguments make at most one object
abbrev IsMade : List (Arg Known) → Arg Known → Type 0
IsMade all a = IfThere (λ x. made_in all ≡ Some x) (new_object_in a)

-- a new id that is fresh to the rows is free to the checker
pub news_free : (tables : List Interface) (k : Knows) (places : Maker → List ℕ) (here : Rows Row)
    (args all : List (Arg Known)) → KnownAs k places here
    → IfThere (Fresh here) (made_in all) → Each (IsMade all) args
    → Each (IsFree Request (reader_by tables k ToServer)) args
news_free tables k places here args all a g h =
    each_by (IsMade all) (IsFree Request (reader_by tables k ToServer))
    (λ arg made. if_by {P = λ (x : Known). made_in all ≡ Some x} {Q = λ (x : Known). (reader_by tables k ToServer).new_id x.id
    ≡ Free}
    (λ x e. fresh_known tables k places here x a (subst (IfThere (Fresh here)) e g)) (new_object_in arg) made) args h

-- the id of the server's next object is free to the checker
pub news_told : (tables : List Interface) (k : Knows) (places : Maker → List ℕ) (here : Rows Row)
    (args all : List (Arg Known)) → KnownAs k places here
    → IfThere (NextTold here) (made_in all) → Each (IsMade all) args
    → Each (IsFree Event (reader_by tables k ToClient)) args
news_told tables k places here args all a g h =
    each_by (IsMade all) (IsFree Event (reader_by tables k ToClient))
    (λ arg made. if_by {P = λ (x : Known). made_in all ≡ Some x}
    {Q = λ (x : Known). (reader_by tables k ToClient).new_server_id x.id ≡ Free}
    (λ x e. told_known tables k places here x a (subst (IfThere (NextTold here)) e g)) (new_object_in arg) made) args h
