-- What the checks of a call promise to the writer of its message.
use Rattle.std.proofs.Common.{◌≡◌, ℕ, suc, ◌<◌, ◌≤◌, true, List, [], ◌∷◌, length, map}
use Rattle.std.proofs.Common.{Some, None, refl, sym, ◌∙◌, subst, arith}
use Rattle.std.specs.Prelude.{option_map}
use Rattle.std.proofs.lemmas.List.{length-map}
use Rattle.wl_wire.specs.declared.kind.Kind.{Kind}
use Rattle.wl_wire.specs.declared.kind.Kind.TheVariants as kinds
use Rattle.wl_wire.specs.Argument.{Argument, Int, Uint, Fixed, Str, Obj, New, NewNamed, Array, Fd}
use Rattle.wl_wire.specs.Spelling.{Fits, spelled_len}
use Rattle.wl_sigs.specs.Tables.{Interface}
use Rattle.wl_objects.specs.declared.argument.Arg.{Arg}
use Rattle.wl_objects.specs.declared.argument.Arg.TheVariants as args
use Rattle.wl_objects.specs.declared.calling.Measured.{Measured}
use Rattle.wl_objects.specs.Writing.{Given, given, given_of, wired, on_wire, suits, wrong_place}
use Rattle.wl_objects.specs.Writing.{message_len, EachFits, IsMeasured, call_makes}
use Rattle.wl_objects.specs.Messages.{made}
use Rattle.wl_objects.proofs.Calls.{len-least, len-any}
use Rattle.wl_objects.proofs.WrittenArrives.{if-none, text_is}

-- an argument of the kind has a spelling, if that is short
fits-one : (n : ℕ) (kind : Kind) (x : Given) → suits kind x ≡ true → spelled_len (wired n x) ≤ 65543 → Fits (wired n x)
fits-one n kinds.Int (Int z) e h = tt
fits-one n kinds.Uint (Uint m) e h = tt
fits-one n kinds.Fixed (Fixed z) e h = tt
fits-one n (kinds.Str null) (Str None) e h = tt
fits-one n (kinds.Str null) (Str (Some text)) e h = text_is text e (omega arith)
fits-one n (kinds.Obj null iface) (Obj object) e h = tt
fits-one n (kinds.New (Some iface)) (New x) e h = tt
fits-one n (kinds.NewByServer iface) (New x) e h = tt
fits-one n (kinds.New None) (NewNamed iface version x) e h = text_is iface e (omega arith)
fits-one n kinds.Array (Array bytes) e h = omega arith
fits-one n kinds.Fd (Fd token) e h = tt
fits-one n kind x e h = absurd (cc)

pub each-fits : (n place : ℕ) (ks : List Kind) (list : List Given) → wrong_place place ks list ≡ None
    → message_len (map (wired n) list) ≤ 65543 → EachFits (map (wired n) list)
each-fits n place [] [] w h = tt
each-fits n place [] (x ∷ list) w h = absurd (cc)
each-fits n place (kind ∷ ks) [] w h = absurd (cc)
each-fits n place (kind ∷ ks) (x ∷ list) w h =
    let suit = if-none (suits kind x) (wrong_place (suc place) ks list) place w in
    let least : 8 ≤ message_len (map (wired n) list) = len-least (map (wired n) list) in
    (fits-one n kind x suit.0 (omega arith), each-fits n (suc place) ks list suit.1 (omega arith))

pub same-number : (place : ℕ) (ks : List Kind) (list : List Given) → wrong_place place ks list ≡ None
    → length list ≡ length ks
same-number place [] [] w = refl
same-number place [] (x ∷ list) w = absurd (cc)
same-number place (kind ∷ ks) [] w = absurd (cc)
same-number place (kind ∷ ks) (x ∷ list) w =
    let suit = if-none (suits kind x) (wrong_place (suc place) ks list) place w in
    let more : length list ≡ length ks = same-number (suc place) ks list suit.1 in omega arith

-- a call has no argument for a new object without an interface in its signature
pub not_named : (x : Arg) → suits (kinds.New None) (given_of x) ≡ true → ⊥
not_named (args.Int z) e = cc
not_named (args.Uint n) e = cc
not_named (args.Fixed z) e = cc
not_named (args.Str None) e = cc
not_named (args.Str (Some text)) e = cc
not_named (args.Obj object) e = cc
not_named args.New e = cc
not_named (args.Array bytes) e = cc
not_named (args.Fd token) e = cc

call-one : (tables : List Interface) (version id : ℕ) (kind : Kind) (ks : List Kind) (x : Given)
    (values : List Argument) → suits kind x ≡ true → (kind ≡ kinds.New None → ⊥)
    → made tables version ks values ≡ option_map (λ iface. record { id = id; iface = iface; version = version })
    (call_makes ks)
    → made tables version (kind ∷ ks) (wired id x ∷ values)
    ≡ option_map (λ iface. record { id = id; iface = iface; version = version }) (call_makes (kind ∷ ks))
call-one tables version id kinds.Int ks (Int z) values e n h = h
call-one tables version id kinds.Uint ks (Uint m) values e n h = h
call-one tables version id kinds.Fixed ks (Fixed z) values e n h = h
call-one tables version id (kinds.Str null) ks (Str text) values e n h = h
call-one tables version id (kinds.Obj null iface) ks (Obj object) values e n h = h
call-one tables version id (kinds.New (Some iface)) ks (New x) values e n h = refl
call-one tables version id (kinds.New None) ks x values e n h = absurd (n refl)
call-one tables version id (kinds.NewByServer iface) ks (New x) values e n h = refl
call-one tables version id kinds.Array ks (Array bytes) values e n h = h
call-one tables version id kinds.Fd ks (Fd token) values e n h = h
call-one tables version id kind ks x values e n h = absurd (cc)

-- the object that a call makes is the one new object in its signature
pub call-makes : (tables : List Interface) (version id place : ℕ) (ks : List Kind) (list : List Arg)
    → wrong_place place ks (given list) ≡ None
    → made tables version ks (on_wire id list) ≡ option_map
    (λ iface. record { id = id; iface = iface; version = version }) (call_makes ks)
call-makes tables version id place [] [] w = refl
call-makes tables version id place [] (x ∷ list) w = absurd (cc)
call-makes tables version id place (kind ∷ ks) [] w = absurd (cc)
call-makes tables version id place (kind ∷ ks) (x ∷ list) w =
    let suit = if-none (suits kind (given_of x)) (wrong_place (suc place) ks (given list)) place w in
    call-one tables version id kind ks (given_of x) (on_wire id list) suit.0
    (λ (e : kind ≡ kinds.New None). not_named x (subst (λ (k : Kind). suits k (given_of x) ≡ true) e suit.0))
    (call-makes tables version id (suc place) ks list suit.1)

-- the checks of a call promise that each argument has a spelling, and that the message fits within
-- the limit
pub measured-fits : (limit : ℕ) (ks : List Kind) (list : List Arg) (m : Measured) → limit < 65536
    → IsMeasured ks list limit m → (id : ℕ) → EachFits (on_wire id list) × (message_len (on_wire id list) ≤ limit)
measured-fits limit ks list m most is id =
    let len : message_len (on_wire id list) ≤ limit = omega (arith, is.len, is.short, len-any id (given list)) in
    (each-fits id 0 ks (given list) is.right (omega arith), len)

-- the message's length does not depend on the new object's id
pub measured-len : (limit : ℕ) (ks : List Kind) (list : List Arg) (m : Measured) → IsMeasured ks list limit m → (id : ℕ)
    → m.len ≡ message_len (on_wire id list)
measured-len limit ks list m is id = is.len ∙ sym (len-any id (given list))

pub few : (ks : List Kind) (list : List Arg) → length ks ≤ 20 → wrong_place 0 ks (given list) ≡ None → length list ≤ 20
few ks list h w = omega (arith, h, same-number 0 ks (given list) w, length-map list given_of)
