-- The message that a call writes.
use Rattle.std.proofs.Common.{◌≡◌, ◌≢◌, ℕ, suc, ◌+◌, ◌<◌, ◌≤◌, ◌^◌, Bool, true, false, cond, List, []}
use Rattle.std.proofs.Common.{◌∷◌, map, length, ◌⊎◌, inl, inr, refl, sym, ap, subst, ◌∙◌, arith}
use Rattle.std.specs.Prelude.{nat_eq, nat_lt}
use Rattle.std.specs.List.{All}
use Rattle.std.specs.declared.option.Option.{Option}
use Rattle.std.specs.declared.option.Option.TheVariants.{None, Some}
use Rattle.std.specs.declared.result.Result.TheVariants.{Ok, Err}
use Rattle.std.proofs.lemmas.Bool.{eqb-true, ltb-false, and_parts}
use Rattle.std.proofs.lemmas.List.Elements.{All-tail}
use Rattle.wl_wire.specs.declared.kind.Kind.{Kind}
use Rattle.wl_wire.specs.declared.kind.Kind.TheVariants as kinds
use Rattle.wl_wire.specs.declared.kind.Iface.{Iface}
use Rattle.wl_wire.specs.Argument.{reshaped, Int, Uint, Fixed, Str, Obj, New, NewNamed, Array, Fd}
use Rattle.wl_wire.specs.Spelling.{Suits, spelled_len}
use Rattle.wl_sigs.specs.Side.{Side}
use Rattle.wl_sigs.specs.Tables.{Interface, signature_at, new_objects, server_objects}
use Rattle.wl_sigs.specs.Tables as sigs
use Rattle.wl_object_map.specs.declared.object.Object.{Object}
use Rattle.wl_object_map.specs.declared.object.Entry.{Entry}
use Rattle.wl_object_map.specs.declared.object.State.{State}
use Rattle.wl_object_map.specs.declared.object.State.TheVariants as states
use Rattle.wl_objects.specs.declared.error.SendError.{SendError}
use Rattle.wl_object_map.specs.declared.object.Maker.{Maker}
use Rattle.wl_object_map.specs.Objects.{Objects, ObjectsAreSound, look, next_id, next_birth}
use Rattle.wl_objects.specs.Reading.{has_required_iface}
use Rattle.wl_message.specs.Cut.{greatest_limit}
use Rattle.wl_objects.specs.Writing.{Given, suits, wrong_place, lost_place}
use Rattle.wl_objects.specs.Writing.{is_live_as, row_is_of, can_name, wired, tokens_of, message_len}
use Rattle.wl_objects.specs.Messages.{NewObject, made, live_row, checked, checked_by, checked_as}
use Rattle.wl_objects.specs.Messages.{unless_hidden, signature_unless_wrong, is_hidden}
use Rattle.wl_objects.proofs.WrittenArrives.{no_nul}
use Rattle.theory_connection.specs.Meant.{Birth, client_birth, Born, Known, Arg, rearg, born_of, birth_of, wire}
use Rattle.theory_connection.specs.Meant.{tokens, new_object_in, made_in, objects, born_of_entry, live_entry}
use Rattle.theory_connection.specs.World.{Each, IfThere}
use Rattle.theory_connection.specs.Answers.{birth_at, handed}
use Rattle.theory_connection.specs.Stands.{SuitKinds, NamesRightly}
use Rattle.theory_connection.specs.Runs.{FitsWords}
use Rattle.theory_connection.proofs.TwoRanges.{row_word}
use Rattle.wl_object_map.specs.View.{lives}
use Rattle.wl_objects.specs.Messages.{or_else}

-- ---- what holds if no refusal of a write applies

-- what the checks of a call establish if no refusal applies
pub record Checked (limit : ℕ) (tables : List Interface) (side : Side) (view : Objects) (target : Object) (opcode : ℕ)
    (given : List Given) (signature : sigs.MessageSignature) : Type 0 where
  pub entry : Entry
  pub there : look view target.id ≡ Some entry
  pub birth : entry.birth ≡ target.birth
  pub live : entry.state ≡ states.Live
  pub hidden : is_hidden side entry.iface opcode ≡ false
  pub signed : signature_at tables entry.iface.0 side opcode ≡ Some signature
  pub old_enough : signature.since ≤ entry.version
  pub suit : wrong_place 0 signature.kinds given ≡ None
  pub found : lost_place (look view) 0 signature.kinds given ≡ None
  pub len : message_len (map (wired 0) given) ≤ limit

is_live-state : (s : State) → lives s ≡ true → s ≡ states.Live
is_live-state states.Live h = refl
is_live-state states.Zombie h = absurd (cc h)

pub record LiveAs (birth : ℕ) (o : Option Entry) : Type 0 where
  pub entry : Entry
  pub there : o ≡ Some entry
  pub birth_is : entry.birth ≡ birth
  pub live : entry.state ≡ states.Live

-- the entry is live and has this birth
pub live_as : (birth : ℕ) (o : Option Entry) → is_live_as birth o ≡ true → LiveAs birth o
live_as birth None h = absurd (cc h)
live_as birth (Some e) h = let k = and_parts (nat_eq e.birth birth) (lives e.state) h
    in record { entry = e; there = refl; birth_is = eqb-true e.birth birth k.0; live = is_live-state e.state k.1 }

live_row_at : (birth : ℕ) (o : Option Entry) (b : Bool) → is_live_as birth o ≡ b → (e : Entry) → cond b o None ≡ Some e
    → LiveAs birth o × (o ≡ Some e)
live_row_at birth o true h e k = (live_as birth o h, k)
live_row_at birth o false h e k = absurd (cc k)

of_len : (b : Bool) (signature s : sigs.MessageSignature) (why : SendError) → cond b (Err why) (Ok signature) ≡ Ok s
    → (b ≡ false) × (signature ≡ s)
of_len true signature s why h = absurd (cc h)
of_len false signature s why h = (refl, cc h)

pub record Fine (limit : ℕ) (wrong lost : Option ℕ) (len : ℕ) (signature s : sigs.MessageSignature) : Type 0 where
  pub suit : wrong ≡ None
  pub found : lost ≡ None
  pub short : len ≤ limit
  pub same : signature ≡ s

fine : (limit : ℕ) (wrong lost : Option ℕ) (len : ℕ) (signature s : sigs.MessageSignature)
    → signature_unless_wrong limit wrong lost len signature ≡ Ok s → Fine limit wrong lost len signature s
fine limit None None len signature s h = let k = of_len (nat_lt limit len) signature s _ h
    in record { suit = refl; found = refl; short = ltb-false limit len k.0; same = k.1 }
fine limit None (Some place) len signature s h = absurd (cc h)
fine limit (Some place) lost len signature s h = absurd (cc h)

record AsChecked (limit : ℕ) (view : Objects) (given : List Given) (entry : Entry) (o : Option sigs.MessageSignature)
    (s : sigs.MessageSignature) : Type 0 where
  there : o ≡ Some s
  old_enough : s.since ≤ entry.version
  suit : wrong_place 0 s.kinds given ≡ None
  found : lost_place (look view) 0 s.kinds given ≡ None
  len : message_len (map (wired 0) given) ≤ limit

not_old : (limit : ℕ) (view : Objects) (given : List Given) (entry : Entry) (s t : sigs.MessageSignature) (b : Bool)
    (why : SendError) → nat_lt entry.version s.since ≡ b
    → cond b (Err why)
    (signature_unless_wrong limit (wrong_place 0 s.kinds given) (lost_place (look view) 0 s.kinds given)
    (message_len (map (wired 0) given)) s) ≡ Ok t → AsChecked limit view given entry (Some s) t
not_old limit view given entry s t true why e h = absurd (cc h)
not_old limit view given entry s t false why e h =
    let f = fine limit _ _ _ s t h in
    subst (λ (x : sigs.MessageSignature). AsChecked limit view given entry (Some s) x) f.same
    (record { there = refl; old_enough = ltb-false _ _ e; suit = f.suit; found = f.found; len = f.short })

as_checked : (limit : ℕ) (view : Objects) (given : List Given) (entry : Entry) (o : Option sigs.MessageSignature)
    (s : sigs.MessageSignature)
    → checked_as limit view given entry o ≡ Ok s → AsChecked limit view given entry o s
as_checked limit view given entry None s h = absurd (cc h)
as_checked limit view given entry (Some t) s h = not_old limit view given entry t s _ _ refl h

not_hidden : (b : Bool) (o : Option sigs.MessageSignature) (s : sigs.MessageSignature) → unless_hidden b o ≡ Some s
    → (b ≡ false) × (o ≡ Some s)
not_hidden true o s h = absurd (cc h)
not_hidden false o s h = (refl, h)

by_checked : (limit : ℕ) (tables : List Interface) (side : Side) (view : Objects) (target : Object) (opcode : ℕ)
    (given : List Given) (s : sigs.MessageSignature) (o : Option Entry) → live_row view target ≡ o
    → checked_by limit tables side view opcode given o ≡ Ok s → Checked limit tables side view target opcode given s
by_checked limit tables side view target opcode given s None e h = absurd (cc h)
by_checked limit tables side view target opcode given s (Some entry) e h =
    let l = live_row_at target.birth (look view target.id) _ refl entry e in
    let k : l.0.entry ≡ entry = cc (l.0.there, l.1) in
    let c = as_checked limit view given entry _ s h in
    let n = not_hidden _ _ s c.there in
    record {
      entry = entry;
      there = l.1;
      birth = ap (λ (x : Entry). x.birth) (sym k) ∙ l.0.birth_is;
      live = ap (λ (x : Entry). x.state) (sym k) ∙ l.0.live;
      hidden = n.0;
      signed = n.1;
      old_enough = c.old_enough;
      suit = c.suit;
      found = c.found;
      len = c.len;
    }

-- a call to which no refusal applies passes its checks
pub is_checked : (limit : ℕ) (tables : List Interface) (side : Side) (view : Objects) (target : Object) (opcode : ℕ)
    (given : List Given) (s : sigs.MessageSignature) → checked limit tables side view target opcode given ≡ Ok s
    → Checked limit tables side view target opcode given s
is_checked limit tables side view target opcode given s h =
    by_checked limit tables side view target opcode given s _ refl h

-- ---- the message

-- the object as it was born, from its entry
abbrev pub born_at : ℕ → Option Entry → Born
born_at id None = record { birth = client_birth 0; iface = record { 0 = 0 }; version = 0 }
born_at id (Some e) = born_of_entry id e

abbrev pub resolve : Objects → Option Object → Option Known
resolve view None = None
resolve view (Some object) = Some (record { id = object.id; born = born_at object.id (look view object.id) })

-- what a given argument means, with this new object
abbrev pub meant : Objects → Known → Given → Arg Known
meant view new a = reshaped (resolve view) (λ _. new) (λ t. t) a

-- the new object of a call that makes this maker's objects
abbrev pub new_known : Maker → Objects → Option NewObject → Known
new_known maker view None = record {
  id = next_id maker view;
  born = record { birth = record { maker = maker; number = next_birth maker view }; iface = record { 0 = 0 }; version = 0 };
}
new_known maker view (Some m) = record {
  id = next_id maker view;
  born = record { birth = record { maker = maker; number = next_birth maker view }; iface = m.iface; version = m.version };
}

wire_one : (view : Objects) (new : Known) (a : Given) → wire (meant view new a) ≡ wired new.id a
wire_one view new (Obj None) = refl
wire_one view new a = refl

-- the message that is meant is written as the arguments that were given
pub wire_all : (view : Objects) (new : Known) (given : List Given)
    → map wire (map (meant view new) given) ≡ map (wired new.id) given
wire_all view new [] = refl
wire_all view new (a ∷ given) = rw (wire_one view new a, wire_all view new given) refl

-- the tokens of the message are those that were given
pub tokens_all : (view : Objects) (new : Known) (given : List Given)
    → tokens (map (meant view new) given) ≡ tokens_of given
tokens_all view new [] = refl
tokens_all view new (Obj None ∷ given) = tokens_all view new given
tokens_all view new (Fd z ∷ given) = ap (λ (l : List ℕ). z ∷ l) (tokens_all view new given)
tokens_all view new (a ∷ given) = tokens_all view new given

-- the argument suits its kind, and its object can be named
pub record Right (view : Objects) (kind : Kind) (a : Given) : Type 0 where
  pub suit : suits kind a ≡ true
  pub named : can_name (look view) kind a ≡ true

-- each given argument suits its kind, and names an object that can be named
abbrev pub AllRight : Objects → List Kind → List Given → Type 0
AllRight view [] [] = Unit {0}
AllRight view (k ∷ ks) (a ∷ given) = Right view k a × AllRight view ks given
AllRight view _ _ = ⊥

if_none : (b : Bool) (o : Option ℕ) (p : ℕ) → cond b o (Some p) ≡ None → (b ≡ true) × (o ≡ None)
if_none true o p h = (refl, h)
if_none false o p h = absurd (cc h)

-- if no argument is wrong and no object is lost, all arguments are right
pub all_right : (view : Objects) (place : ℕ) (ks : List Kind) (given : List Given) → wrong_place place ks given ≡ None
    → lost_place (look view) place ks given ≡ None → AllRight view ks given
all_right view place [] [] w l = tt
all_right view place [] (a ∷ given) w l = absurd (cc w)
all_right view place (k ∷ ks) [] w l = absurd (cc w)
all_right view place (k ∷ ks) (a ∷ given) w l =
    let x = if_none (suits k a) (wrong_place (suc place) ks given) place w in
    let y = if_none (can_name (look view) k a) (lost_place (look view) (suc place) ks given) place l in
    (record { suit = x.0; named = y.0 }, all_right view (suc place) ks given x.1 y.1)

-- ---- the message names the objects that were passed

handed_one : (view : Objects) (new : Known) (next : Birth) (k : Kind) (a : Given)
    → new.born.birth ≡ next → Right view k a
    → rearg birth_of (rearg born_of (meant view new a)) ≡ handed next a
handed_one view new next k (Obj None) e r = refl
handed_one view new next k (Obj (Some x)) e r =
    let l = live_as x.birth (look view x.id) (and_parts _ _ r.named).0 in
    ap (λ (b : Birth). Obj (Some b)) (ap (λ o. (born_at x.id o).birth) l.there
    ∙ ap (λ (n : ℕ). birth_at (record { id = x.id; birth = n })) l.birth_is)
handed_one view new next k (New x) e r = ap (λ (b : Birth). New b) e
handed_one view new next k (NewNamed name own x) e r = ap (λ (b : Birth). NewNamed name own b) e
handed_one view new next k a e r = refl

-- the message, by births, has the arguments that were passed
pub handed_all : (view : Objects) (new : Known) (next : Birth) (ks : List Kind) (given : List Given)
    → new.born.birth ≡ next → AllRight view ks given
    → map (rearg birth_of) (map (rearg born_of) (map (meant view new) given)) ≡ map (handed next) given
handed_all view new next [] [] e r = refl
handed_all view new next [] (a ∷ given) e r = absurd r
handed_all view new next (k ∷ ks) [] e r = absurd r
handed_all view new next (k ∷ ks) (a ∷ given) e r =
    rw (handed_one view new next k a e r.0, handed_all view new next ks given e r.1) refl

-- ---- the message's objects

-- a live object, with its row
pub record LiveAt (view : Objects) (x : Known) : Type 0 where
  pub entry : Entry
  pub there : look view x.id ≡ Some entry
  pub same : born_of_entry x.id entry ≡ x.born
  pub live : entry.state ≡ states.Live

pub live_at : (view : Objects) (k : Kind) (x : Object) → can_name (look view) k (Obj (Some x)) ≡ true
    → LiveAt view (record { id = x.id; born = born_at x.id (look view x.id) })
live_at view k x h = let l = live_as x.birth (look view x.id) (and_parts _ _ h).0
    in record { entry = l.entry; there = l.there; same = ap (born_at x.id) (sym l.there); live = l.live }

-- each object in the message is live
pub all_live : (view : Objects) (new : Known) (ks : List Kind) (given : List Given) → AllRight view ks given
    → Each (LiveAt view) (objects (map (meant view new) given))
all_live view new [] [] r = tt
all_live view new [] (a ∷ given) r = absurd r
all_live view new (k ∷ ks) [] r = absurd r
all_live view new (k ∷ ks) (Obj None ∷ given) r = all_live view new ks given r.1
all_live view new (k ∷ ks) (Obj (Some x) ∷ given) r = (live_at view k x r.0.named, all_live view new ks given r.1)
all_live view new (k ∷ ks) (a ∷ given) r = all_live view new ks given r.1

-- ---- the message's new object

abbrev pub Matches : Known → ℕ → Kind → Type 0
Matches new version (kinds.New (Some iface)) = (new.born.iface ≡ iface) × (new.born.version ≡ version)
Matches new version (kinds.NewByServer iface) = (new.born.iface ≡ iface) × (new.born.version ≡ version)
Matches new version (kinds.New None) = ⊥
Matches new version _ = Unit {0}

-- how many objects the kinds make
abbrev pub makings : List Kind → ℕ
makings ks = length (new_objects ks) + length (server_objects ks)

none_new : (new : Known) (version : ℕ) (ks : List Kind) → makings ks ≤ 0 → Each (Matches new version) ks
none_new new version [] h = tt
none_new new version (kinds.New i ∷ ks) h = absurd (omega arith)
none_new new version (kinds.NewByServer i ∷ ks) h = absurd (omega arith)
none_new new version (kind ∷ ks) h = (tt, none_new new version ks h)

unnamed_first : (k : Kind) (ks : List Kind) → All (λ x. x ≢ kinds.New None) (k ∷ ks) → k ≢ kinds.New None
unnamed_first k ks h = h 0 k (omega arith)

unnamed_rest : (k : Kind) (ks : List Kind) → All (λ x. x ≢ kinds.New None) (k ∷ ks) → All (λ x. x ≢ kinds.New None) ks
unnamed_rest k ks h = All-tail (λ (x : Kind). x ≢ kinds.New None) k ks h

-- each kind that makes an object makes the new one, and no other
pub matches : (tables : List Interface) (maker : Maker) (view : Objects) (version id : ℕ) (ks : List Kind) (given : List Given)
    → AllRight view ks given → makings ks ≤ 1 → All (λ x. x ≢ kinds.New None) ks
    → Each (Matches (new_known maker view (made tables version ks (map (wired id) given))) version) ks
matches tables maker view version id [] [] r h u = tt
matches tables maker view version id [] (a ∷ given) r h u = absurd r
matches tables maker view version id (k ∷ ks) [] r h u = absurd r
matches tables maker view version id (kinds.Int ∷ ks) (Int z ∷ given) r h u =
    (tt, matches tables maker view version id ks given r.1 h (unnamed_rest kinds.Int ks u))
matches tables maker view version id (kinds.Uint ∷ ks) (Uint z ∷ given) r h u =
    (tt, matches tables maker view version id ks given r.1 h (unnamed_rest kinds.Uint ks u))
matches tables maker view version id (kinds.Fixed ∷ ks) (Fixed z ∷ given) r h u =
    (tt, matches tables maker view version id ks given r.1 h (unnamed_rest kinds.Fixed ks u))
matches tables maker view version id (kinds.Str null ∷ ks) (Str z ∷ given) r h u =
    (tt, matches tables maker view version id ks given r.1 h (unnamed_rest (kinds.Str null) ks u))
matches tables maker view version id (kinds.Obj null i ∷ ks) (Obj z ∷ given) r h u =
    (tt, matches tables maker view version id ks given r.1 h (unnamed_rest (kinds.Obj null i) ks u))
matches tables maker view version id (kinds.New (Some iface) ∷ ks) (New x ∷ given) r h u = (
  (refl, refl),
  none_new (new_known maker view (Some (record { id = id; iface = iface; version = version }))) version ks
      (omega arith),
)
matches tables maker view version id (kinds.New None ∷ ks) (NewNamed name own x ∷ given) r h u =
    absurd (unnamed_first (kinds.New None) ks u refl)
matches tables maker view version id (kinds.Array ∷ ks) (Array z ∷ given) r h u =
    (tt, matches tables maker view version id ks given r.1 h (unnamed_rest kinds.Array ks u))
matches tables maker view version id (kinds.Fd ∷ ks) (Fd z ∷ given) r h u =
    (tt, matches tables maker view version id ks given r.1 h (unnamed_rest kinds.Fd ks u))
matches tables maker view version id (kinds.NewByServer iface ∷ ks) (New x ∷ given) r h u = (
  (refl, refl),
  none_new (new_known maker view (Some (record { id = id; iface = iface; version = version }))) version ks
      (omega arith),
)
matches tables maker view version id (_ ∷ ks) (_ ∷ given) r h u = absurd (cc r.0.suit)

-- ---- the message fits its signature

fit_one : (tables : List Interface) (view : Objects) (new : Known) (version : ℕ) (k : Kind) (a : Given) → ObjectsAreSound view
    → new.id < 2 ^ 32 → Right view k a → Matches new version k → FitsWords a → spelled_len (wired 0 a) ≤ greatest_limit
    → Suits k (wire (meant view new a)) × NamesRightly tables version k (meant view new a)
fit_one tables view new version kinds.Int (Int z) s n r m g l = (g, tt)
fit_one tables view new version kinds.Uint (Uint z) s n r m g l = (g, tt)
fit_one tables view new version kinds.Fixed (Fixed z) s n r m g l = (g, tt)
fit_one tables view new version (kinds.Str null) (Str None) s n r m g l = (r.suit, tt)
fit_one tables view new version (kinds.Str null) (Str (Some text)) s n r m g l =
    (record { no_nul = no_nul text r.suit; len = omega arith }, tt)
fit_one tables view new version (kinds.Obj null iface) (Obj None) s n r m g l = ((omega arith, λ _. r.suit), tt)
fit_one tables view new version (kinds.Obj null iface) (Obj (Some x)) s n r m g l =
    let b = and_parts _ _ r.named in
    let v = live_as x.birth (look view x.id) b.0 in
    let low = row_word view x.id v.entry s v.there in
    let of : row_is_of iface (Some v.entry) ≡ true = ap (row_is_of iface) (sym v.there) ∙ b.1 in (
      (omega (arith, low.1), λ z. absurd (omega (arith, low.0, z))),
      (low.0, ap (λ o. has_required_iface iface (live_entry (born_at x.id o))) v.there ∙ same_of iface v.entry ∙ of),
    )
  where
    same_of : (i : Option Iface) (e : Entry)
        → has_required_iface i (live_entry (born_of_entry x.id e)) ≡ has_required_iface i e
    same_of None e = refl
    same_of (Some i) e = refl
fit_one tables view new version (kinds.New (Some iface)) (New x) s n r m g l =
    (n, λ j. Some (record { id = new.id; iface = sym m.0 j; version = sym m.1 j }))
fit_one tables view new version (kinds.New None) (NewNamed name own x) s n r m g l = absurd m
fit_one tables view new version kinds.Array (Array z) s n r m g l = (omega arith, tt)
fit_one tables view new version kinds.Fd (Fd z) s n r m g l = (tt, tt)
fit_one tables view new version (kinds.NewByServer iface) (New x) s n r m g l =
    (n, λ j. Some (record { id = new.id; iface = sym m.0 j; version = sym m.1 j }))
fit_one tables view new version _ _ s n r m g l = absurd (cc r.suit)

-- the arguments that are meant fit the kinds
pub fit_all : (tables : List Interface) (view : Objects) (new : Known) (version : ℕ) (ks : List Kind) (given : List Given)
    → ObjectsAreSound view → new.id < 2 ^ 32 → AllRight view ks given → Each (Matches new version) ks
    → Each FitsWords given → message_len (map (wired 0) given) ≤ greatest_limit
    → SuitKinds tables version ks (map (meant view new) given)
fit_all tables view new version [] [] s n r m g l = tt
fit_all tables view new version [] (a ∷ given) s n r m g l = absurd r
fit_all tables view new version (k ∷ ks) [] s n r m g l = absurd r
fit_all tables view new version (k ∷ ks) (a ∷ given) s n r m g l = (
  fit_one tables view new version k a s n r.0 m.0 g.0 (omega (arith, l)),
  fit_all tables view new version ks given s n r.1 m.1 g.1 (omega (arith, l)),
)

-- ---- the message makes at most one object

abbrev pub NewIs : Known → List (Arg Known) → Type 0
NewIs new args = Each (λ a. IfThere (λ x. x ≡ new) (new_object_in a)) args

-- each new object in the message is this one
pub new_all : (view : Objects) (new : Known) (given : List Given) → NewIs new (map (meant view new) given)
new_all view new [] = tt
new_all view new (New x ∷ given) = (refl, new_all view new given)
new_all view new (NewNamed name own x ∷ given) = (refl, new_all view new given)
new_all view new (a ∷ given) = (tt, new_all view new given)

first_is : (new : Known) (o p : Option Known) → IfThere (λ x. x ≡ new) o → (p ≡ None) ⊎ (p ≡ Some new)
    → (or_else o p ≡ None) ⊎ (or_else o p ≡ Some new)
first_is new None p h q = q
first_is new (Some x) p h q = inr (ap Some h)

-- the arguments make nothing or this object
pub made_new : (new : Known) (args : List (Arg Known)) → NewIs new args
    → (made_in args ≡ None) ⊎ (made_in args ≡ Some new)
made_new new [] h = inl refl
made_new new (a ∷ args) h = first_is new (new_object_in a) (made_in args) h.0 (made_new new args h.1)

or_none : (o p : Option Known) → or_else o p ≡ None → (o ≡ None) × (p ≡ None)
or_none None p h = (refl, h)
or_none (Some x) p h = absurd (cc h)

none_in : (all args : List (Arg Known)) → made_in args ≡ None
    → Each (λ a. IfThere (λ x. made_in all ≡ Some x) (new_object_in a)) args
none_in all [] h = tt
none_in all (a ∷ args) h = let k = or_none (new_object_in a) (made_in args) h
    in (subst (IfThere (λ x. made_in all ≡ Some x)) (sym k.0) tt, none_in all args k.1)

some_in : (new : Known) (all args : List (Arg Known)) → made_in all ≡ Some new → NewIs new args
    → Each (λ a. IfThere (λ x. made_in all ≡ Some x) (new_object_in a)) args
some_in new all [] h n = tt
some_in new all (a ∷ args) h n = (step (new_object_in a) n.0, some_in new all args h n.1)
  where
    step : (o : Option Known) → IfThere (λ x. x ≡ new) o → IfThere (λ x. made_in all ≡ Some x) o
    step None k = tt
    step (Some x) k = h ∙ ap Some (sym k)

-- the arguments make at most one object
pub one_new : (new : Known) (args : List (Arg Known)) → NewIs new args
    → Each (λ a. IfThere (λ x. made_in args ≡ Some x) (new_object_in a)) args
one_new new args h = elim (made_new new args h) [ inl p ↦ none_in args args p | inr p ↦ some_in new args args p h ]

-- a new object has the version that its kind asks for
pub version_of : (view : Objects) (new : Known) (version : ℕ) (ks : List Kind) (given : List Given)
    → AllRight view ks given → Each (Matches new version) ks → (made_in (map (meant view new) given) ≡ None → ⊥)
    → new.born.version ≡ version
version_of view new version [] [] r m h = absurd (h refl)
version_of view new version [] (a ∷ given) r m h = absurd r
version_of view new version (k ∷ ks) [] r m h = absurd r
version_of view new version (kinds.Int ∷ ks) (Int z ∷ given) r m h = version_of view new version ks given r.1 m.1 h
version_of view new version (kinds.Uint ∷ ks) (Uint z ∷ given) r m h = version_of view new version ks given r.1 m.1 h
version_of view new version (kinds.Fixed ∷ ks) (Fixed z ∷ given) r m h = version_of view new version ks given r.1 m.1 h
version_of view new version (kinds.Str null ∷ ks) (Str z ∷ given) r m h = version_of view new version ks given r.1 m.1 h
version_of view new version (kinds.Obj null i ∷ ks) (Obj z ∷ given) r m h = version_of view new version ks given r.1 m.1 h
version_of view new version (kinds.New (Some iface) ∷ ks) (New x ∷ given) r m h = m.0.1
version_of view new version (kinds.New None ∷ ks) (NewNamed name own x ∷ given) r m h = absurd m.0
version_of view new version (kinds.Array ∷ ks) (Array z ∷ given) r m h = version_of view new version ks given r.1 m.1 h
version_of view new version (kinds.Fd ∷ ks) (Fd z ∷ given) r m h = version_of view new version ks given r.1 m.1 h
version_of view new version (kinds.NewByServer iface ∷ ks) (New x ∷ given) r m h = m.0.1
version_of view new version (_ ∷ ks) (_ ∷ given) r m h = absurd (cc r.0.suit)
