-- The arguments of a call, from a place on.
use Rattle.std.proofs.Common.{◌≡◌, ℕ, suc, ◌+◌, ◌<◌, ◌≤◌, Bool, true, false, List, [], ◌∷◌, length}
use Rattle.std.proofs.Common.{get_or, drop, Some, None, refl, arith, add-one, drop-cons}
use Rattle.std.specs.Prelude.{Option, map}
use Rattle.std.proofs.lemmas.List.{drop_all}
use Rattle.std.specs.Option.{option_or}
use Rattle.std.specs.List.{All}
use Rattle.std.proofs.Common.{Err}
use Rattle.std.proofs.lemmas.List.Elements.{All-cons, All-same}
use Rattle.wl_sigs.specs.Tables.{MessageSignature}
use Rattle.wl_objects.specs.declared.error.SendError.TheVariants.{WrongArgs}
use Rattle.wl_objects.specs.Messages.{signature_unless_wrong}
use Rattle.wl_objects.specs.Carried.{InRange}
use Rattle.wl_wire.specs.declared.kind.Kind.{Kind}
use Rattle.wl_wire.specs.declared.kind.Kind.TheVariants as kinds
use Rattle.wl_objects.specs.declared.argument.Arg.{Arg}
use Rattle.wl_objects.specs.declared.argument.Arg.TheVariants as args
use Rattle.wl_object_map.specs.declared.object.Entry.{Entry}
use Rattle.wl_wire.specs.Argument.{Argument, Int, Uint, Fixed, Str, Obj, New, NewNamed, Array, Fd}
use Rattle.wl_wire.specs.Spelling.{spelled_len}
use Rattle.wl_objects.specs.Writing.{Given, wired, on_wire, message_len, given, given_of, suits}
use Rattle.wl_objects.specs.Writing.{can_name, wrong_place, lost_place, tokens_of, call_makes}
use Rattle.wl_objects.specs.Writing.{IsNumberGiven, int_given, uint_given, fixed_given}

pub wrong-missing : (i : ℕ) (ks : List Kind) (list : List Arg) (k : Kind) → i < length ks → length list ≤ i
    → wrong_place i (drop i ks) (given (drop i list)) ≡ Some i
wrong-missing i ks list k p q = rw (drop-cons ks i k p, drop_all i list q) refl

pub wrong-more : (i : ℕ) (ks : List Kind) (list : List Arg) → length ks ≤ i → i < length list
    → wrong_place i (drop i ks) (given (drop i list)) ≡ Some i
wrong-more i ks list p q = rw (drop_all i ks p, drop-cons list i (get_or list i args.New) q) refl

lost-one : (rows : ℕ → Option Entry) (i : ℕ) (kind : Kind) (ks : List Kind) (x : Given) (list : List Given) (b : Bool)
    → can_name rows kind x ≡ b
    → lost_place rows i (kind ∷ ks) (x ∷ list) ≡ option_or (lost_place rows i (kind ∷ []) (x ∷ []))
    (lost_place rows (suc i) ks list)
lost-one rows i kind ks x list true e = rw e refl
lost-one rows i kind ks x list false e = rw e refl

pub lost-next : (rows : ℕ → Option Entry) (i : ℕ) (ks : List Kind) (list : List Arg) (k : Kind) (a : Arg)
    → i < length ks → i < length list → a ≡ get_or list i a
    → lost_place rows i (drop i ks) (given (drop i list))
    ≡ option_or (lost_place rows i (get_or ks i k ∷ []) (given_of a ∷ []))
    (lost_place rows (i + 1) (drop (i + 1) ks) (given (drop (i + 1) list)))
lost-next rows i ks list k a p q e = rw (add-one, drop-cons ks i k p, drop-cons list i a q, ← e)
    (lost-one rows i (get_or ks i k) (drop (suc i) ks) (given_of a) (given (drop (suc i) list))
    (can_name rows (get_or ks i k) (given_of a)) refl)

pub or-or : {X : Type 0} (a b c : Option X) → option_or (option_or a b) c ≡ option_or a (option_or b c)
or-or None b c = refl
or-or (Some x) b c = refl

pub wrong-next : (i : ℕ) (ks : List Kind) (list : List Arg) (k : Kind) (a : Arg) → i < length ks → i < length list
    → a ≡ get_or list i a → suits (get_or ks i k) (given_of a) ≡ true
    → wrong_place i (drop i ks) (given (drop i list))
    ≡ wrong_place (i + 1) (drop (i + 1) ks) (given (drop (i + 1) list))
wrong-next i ks list k a p q e t = rw (add-one, drop-cons ks i k p, drop-cons list i a q, ← e, t) refl

-- a call with an argument of the wrong kind is refused for that, whatever else is wrong with it
pub refused-wrong : (limit place : ℕ) (wrong lost : Option ℕ) (len : ℕ) (m : MessageSignature) → wrong ≡ Some place
    → Err (WrongArgs place) ≡ signature_unless_wrong limit wrong lost len m
refused-wrong limit place wrong lost len m e = rw e refl

pub len-at : (id i : ℕ) (list : List Arg) (a : Arg) → i < length list
    → message_len (on_wire id (drop i list)) ≡ spelled_len (wired id (given_of (get_or list i a))) + message_len
    (on_wire id (drop (i + 1) list))
len-at id i list a q = rw (add-one, drop-cons list i a q) refl

pub len-least : (values : List Argument) → 8 ≤ message_len values
len-least [] = omega arith
len-least (value ∷ values) = let more : 8 ≤ message_len values = len-least values in omega arith

tokens-one : (x : Given) (list : List Given) → length (tokens_of (x ∷ list))
    ≡ length (tokens_of (x ∷ [])) + length (tokens_of list)
tokens-one (Int z) list = omega arith
tokens-one (Uint n) list = omega arith
tokens-one (Fixed z) list = omega arith
tokens-one (Str text) list = omega arith
tokens-one (Obj object) list = omega arith
tokens-one (New x) list = omega arith
tokens-one (NewNamed iface version x) list = omega arith
tokens-one (Array bytes) list = omega arith
tokens-one (Fd token) list = omega arith

makes-one : (k : Kind) (ks : List Kind) → call_makes (k ∷ ks) ≡ option_or (call_makes (k ∷ [])) (call_makes ks)
makes-one kinds.Int ks = refl
makes-one kinds.Uint ks = refl
makes-one kinds.Fixed ks = refl
makes-one (kinds.Str null) ks = refl
makes-one (kinds.Obj null iface) ks = refl
makes-one (kinds.New (Some iface)) ks = refl
makes-one (kinds.New None) ks = refl
makes-one (kinds.NewByServer iface) ks = refl
makes-one kinds.Array ks = refl
makes-one kinds.Fd ks = refl

pub tokens-next : (i : ℕ) (list : List Arg) (a : Arg) → i < length list → a ≡ get_or list i a
    → length (tokens_of (given (drop i list))) ≡ length (tokens_of (given_of a ∷ [])) + length
    (tokens_of (given (drop (i + 1) list)))
tokens-next i list a q e = rw (add-one, drop-cons list i a q, ← e) (tokens-one (given_of a) (given (drop (suc i) list)))

pub makes-next : (i : ℕ) (ks : List Kind) (k : Kind) → i < length ks
    → call_makes (drop i ks) ≡ option_or (call_makes (get_or ks i k ∷ [])) (call_makes (drop (i + 1) ks))
makes-next i ks k q = rw (add-one, drop-cons ks i k q) (makes-one (get_or ks i k) (drop (suc i) ks))

pub len-next : (i : ℕ) (list : List Arg) (a : Arg) → i < length list → a ≡ get_or list i a
    → message_len (on_wire 0 (drop i list)) ≡ spelled_len (wired 0 (given_of a)) + message_len
    (on_wire 0 (drop (i + 1) list))
len-next i list a q e = rw (add-one, drop-cons list i a q, ← e) refl

pub range-next : (i : ℕ) (list : List Arg) (a : Arg) → i < length list → a ≡ get_or list i a → InRange (given_of a)
    → All InRange (given (drop (i + 1) list)) → All InRange (given (drop i list))
range-next i list a q e here more =
    let cut : given (drop i list) ≡ given_of a ∷ given (drop (i + 1) list) =
    rw (add-one, drop-cons list i a q, ← e) refl in
    All-same InRange (given (drop i list)) (given_of a ∷ given (drop (i + 1) list)) cut
    (All-cons InRange (given_of a) (given (drop (i + 1) list)) here more)

-- the length of an argument does not depend on the new object's id
len-one : (id : ℕ) (x : Given) → spelled_len (wired id x) ≡ spelled_len (wired 0 x)
len-one id (Int z) = refl
len-one id (Uint n) = refl
len-one id (Fixed z) = refl
len-one id (Str None) = refl
len-one id (Str (Some text)) = refl
len-one id (Obj object) = refl
len-one id (New x) = refl
len-one id (NewNamed iface version x) = refl
len-one id (Array bytes) = refl
len-one id (Fd token) = refl

pub len-any : (id : ℕ) (list : List Given) → message_len (map (wired id) list) ≡ message_len (map (wired 0) list)
len-any id [] = refl
len-any id (x ∷ list) = rw (len-one id x, len-any id list) refl

-- ---- numbers

pub number-suits : {k : Kind} {x : Given} → IsNumberGiven k x → suits k x ≡ true
number-suits int_given = refl
number-suits uint_given = refl
number-suits fixed_given = refl

pub number-lost : {k : Kind} {x : Given} (rows : ℕ → Option Entry) (i : ℕ) → IsNumberGiven k x
    → lost_place rows i (k ∷ []) (x ∷ []) ≡ None
number-lost rows i int_given = refl
number-lost rows i uint_given = refl
number-lost rows i fixed_given = refl

pub number-len : {k : Kind} {x : Given} → IsNumberGiven k x → spelled_len (wired 0 x) ≡ 4
number-len int_given = refl
number-len uint_given = refl
number-len fixed_given = refl

pub number-tokens : {k : Kind} {x : Given} → IsNumberGiven k x → length (tokens_of (x ∷ [])) ≡ 0
number-tokens int_given = refl
number-tokens uint_given = refl
number-tokens fixed_given = refl

pub number-makes : {k : Kind} {x : Given} → IsNumberGiven k x → call_makes (k ∷ []) ≡ None
number-makes int_given = refl
number-makes uint_given = refl
number-makes fixed_given = refl
