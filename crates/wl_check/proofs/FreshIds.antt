-- A message that was read makes no object with an id that is held. The new id was used before or is
-- the next.
use Rattle.std.proofs.Common.{◌≡◌, ℕ, zero, suc, ◌+◌, ◌<◌, ◌≤◌, Bool, true, false, not, ◌&&◌, cond}
use Rattle.std.proofs.Common.{Some, None, List, [], ◌∷◌, refl, sym, ap, ◌∙◌, subst, ◌⊎◌, inl, inr, arith}
use Rattle.std.proofs.Common.{nat_lt, nat_le, nat_eq, is_none, drop, take, ◌-◌, slice_get, length}
use Rattle.std.specs.Prelude.{Option, option_map}
use Rattle.std.specs.declared.result.Result.{Result}
use Rattle.std.specs.declared.result.Result.TheVariants.{Ok, Err}
use Rattle.std.proofs.lemmas.Bool.{cases_Bool, and_parts, leb-true, eqb-true}
use Rattle.std.proofs.lemmas.Bool.Decides.{nat_tests}
use Rattle.wl_wire.specs.declared.header.Header.{Header}
use Rattle.wl_wire.specs.declared.kind.Kind.{Kind}
use Rattle.wl_wire.specs.declared.kind.Kind.TheVariants as kinds
use Rattle.wl_wire.specs.declared.kind.Iface.{Iface}
use Rattle.wl_wire.specs.declared.kind.ArgFault.{ArgFault}
use Rattle.wl_wire.specs.Argument.{Argument, New, NewNamed}
use Rattle.wl_wire.specs.Word.{header_at}
use Rattle.wl_message.specs.Cut.{is_size}
use Rattle.wl_wire.specs.Reading.{reading as value_at}
use Rattle.wl_sigs.specs.Side.{Side}
use Rattle.wl_sigs.specs.Tables.{MessageSignature, Interface, signature_at, place_of, descriptors}
use Rattle.wl_object_map.specs.declared.object.Entry.{Entry}
use Rattle.wl_objects.specs.declared.lookup.NewId.{NewId}
use Rattle.wl_objects.specs.declared.lookup.NewId.TheVariants.{Free, Wrong, TooMany}
use Rattle.wl_objects.specs.declared.error.Fault.{Fault}
use Rattle.wl_objects.specs.declared.error.Fault.TheVariants.{BadSize, TrailingBytes, MissingDescriptor, UnknownMessage}
use Rattle.wl_object_map.specs.Ranges.{first_server_id, max_server_id, is_of_server}
use Rattle.wl_object_map.specs.View.{max_ids}
use Rattle.wl_objects.specs.Reading.{Reader, forgiving_kind, forgiving, new_fault, value_fault, value_unless}
use Rattle.wl_objects.specs.Reading.{value_or_fault as judged_value, value_before, value_then_rest, arguments_at}
use Rattle.wl_objects.specs.Messages.{Received, NewObject, made, made_by, or_else}
use Rattle.wl_objects.specs.Messages.{is_error, received_whole, received_as, received_by, received}
use Rattle.wl_objects.specs.Messages.{new_id_of}
use Rattle.wl_recording.specs.declared.piece.Direction.{Direction}
use Rattle.wl_check.specs.declared.changes.MessageChanges.{MessageChanges}
use Rattle.wl_check.specs.declared.frames.FramedMessage.{FramedMessage}
use Rattle.wl_check.specs.Changes.{Call, changes, beginning, side_of}
use Rattle.wl_check.specs.Places.{KnownAtPlace, known, holder, is_ending, live_or_zombie, entry_made_at, object_named}
use Rattle.wl_check.specs.Places.{used, server_used}
use Rattle.wl_check.specs.Session.{Session, Judged, changes_of, changes_at, messages}
use Rattle.wl_check.proofs.KnownAtPlace.{IsFresh}
use Rattle.wl_check.proofs.JudgedByPlaces.{reading, length_messages}
use Rattle.std.proofs.lemmas.Option.{slice_get_within}
use Rattle.wl_objects.specs.Messages.{waits_for_request}
use Rattle.wl_check.specs.Rules.{reader_by, is_free_id, is_free_server_id, is_disallowed_bind, called}
use Rattle.wl_check.specs.Rules.{judged_message, judged}
use Rattle.wl_sigs.specs.Rules.{is_empty}

new_free : (place : ℕ) (n : NewId) → new_fault place n ≡ None → n ≡ Free
new_free place Free e = refl
new_free place Wrong e = absurd (cc)
new_free place TooMany e = absurd (cc)

named_id : (o : Option Iface) (own id : ℕ) (m : NewObject)
    → option_map (λ (iface : Iface). record { id = id; iface = iface; version = own }) o ≡ Some m → id ≡ m.id
named_id None own id m e = absurd (cc)
named_id (Some iface) own id m e = cc

-- the new object, if there is one, has an id that is free for the client or for the server
abbrev IsFreeMade : Reader → Option NewObject → Type 0
IsFreeMade r o = (m : NewObject) → o ≡ Some m → (r.new_id m.id ≡ Free) ⊎ (r.new_server_id m.id ≡ Free)

made_by_free : (tables : List Interface) (version : ℕ) (r : Reader) (place : ℕ) (kind : Kind) (v : Argument)
    → value_fault r place kind v ≡ None → IsFreeMade r (made_by tables version kind v)
made_by_free tables version r place (kinds.New (Some iface)) (New id) f = λ m e. let same : id ≡ m.id = cc
    in inl (ap r.new_id (sym same) ∙ new_free place (r.new_id id) f)
made_by_free tables version r place (kinds.NewByServer iface) (New id) f = λ m e. let same : id ≡ m.id = cc
    in inr (ap r.new_server_id (sym same) ∙ new_free place (r.new_server_id id) f)
made_by_free tables version r place (kinds.New None) (NewNamed name own id) f = λ m e. let same =
    named_id (place_of tables name) own id m e in inl (ap r.new_id (sym same) ∙ new_free place (r.new_id id) f)
made_by_free tables version r place _ _ f = λ m e. absurd (cc)

abbrev Free_in : List Interface → ℕ → Reader → List Kind → Result (List Argument × List ℕ) Fault → Type 0
Free_in tables version r ks (Err fault) = Unit {0}
Free_in tables version r ks (Ok found) = IsFreeMade r (made tables version ks found.0)

free_or : (r : Reader) (o rest : Option NewObject) → IsFreeMade r o → IsFreeMade r rest → IsFreeMade r (or_else o rest)
free_or r None rest f h = h
free_or r (Some x) rest f h = f

free_before : (tables : List Interface) (version : ℕ) (r : Reader) (place : ℕ) (kind : Kind) (ks : List Kind)
    (v : Argument) (x : Result (List Argument × List ℕ) Fault) → value_fault r place kind v ≡ None
    → Free_in tables version r ks x → Free_in tables version r (kind ∷ ks) (value_before v x)
free_before tables version r place kind ks v (Err fault) f h = tt
free_before tables version r place kind ks v (Ok found) f h =
    free_or r (made_by tables version kind v) (made tables version ks found.0)
    (made_by_free tables version r place kind v f) h

free_unless : (tables : List Interface) (version : ℕ) (r : Reader) (place : ℕ) (kind : Kind) (ks : List Kind)
    (bytes : List ℕ) (v : Argument × ℕ) (o : Option Fault) → value_fault r place kind v.0 ≡ o
    → ((b : List ℕ) → Free_in tables version r ks (arguments_at r (suc place) ks b))
    → Free_in tables version r (kind ∷ ks) (value_then_rest (arguments_at r (suc place) ks) bytes (value_unless o v))
free_unless tables version r place kind ks bytes v (Some fault) f h = tt
free_unless tables version r place kind ks bytes v None f h =
    free_before tables version r place kind ks v.0 (arguments_at r (suc place) ks (drop v.1 bytes)) f
    (h (drop v.1 bytes))

free_judged : (tables : List Interface) (version : ℕ) (r : Reader) (place : ℕ) (kind : Kind) (ks : List Kind)
    (bytes : List ℕ) (x : Result (Argument × ℕ) ArgFault)
    → ((b : List ℕ) → Free_in tables version r ks (arguments_at r (suc place) ks b))
    → Free_in tables version r (kind ∷ ks) (value_then_rest (arguments_at r (suc place) ks) bytes
    (judged_value r place kind x))
free_judged tables version r place kind ks bytes (Err fault) h = tt
free_judged tables version r place kind ks bytes (Ok v) h =
    free_unless tables version r place kind ks bytes v (value_fault r place kind v.0) refl h

free_at : (tables : List Interface) (version : ℕ) (r : Reader) (place : ℕ) (ks : List Kind) (bytes : List ℕ)
    → Free_in tables version r ks (arguments_at r place ks bytes)
free_at tables version r place [] bytes = λ m e. absurd (cc)
free_at tables version r place (kind ∷ ks) bytes =
    free_judged tables version r place kind ks bytes (value_at (forgiving_kind r.forgives kind) bytes)
    (λ b. free_at tables version r (suc place) ks b)

-- ---- a whole message

abbrev Free_made : List Interface → Reader → Result Received Fault → Type 0
Free_made tables r (Err fault) = Unit {0}
Free_made tables r (Ok got) = IsFreeMade r (made tables got.entry.version got.signature.kinds got.values)

whole_tests : (tables : List Interface) (r : Reader) (a b : Bool) (e f : Fault) (x : Received)
    → Free_made tables r (Ok x) → Free_made tables r (cond a (Err e) (cond b (Err f) (Ok x)))
whole_tests tables r true b e f x h = tt
whole_tests tables r false true e f x h = tt
whole_tests tables r false false e f x h = h

free_whole : (tables : List Interface) (r : Reader) (header : Header) (entry : Entry) (signature : MessageSignature)
    (waiting : ℕ) (x : Result (List Argument × List ℕ) Fault) → Free_in tables entry.version r signature.kinds x
    → Free_made tables r (received_whole header entry signature waiting x)
free_whole tables r header entry signature waiting (Err fault) h = tt
free_whole tables r header entry signature waiting (Ok found) h =
    let got : Received = record {
      target = record { id = header.object; birth = entry.birth };
      entry = entry;
      signature = signature;
      values = found.0;
    } in
    whole_tests tables r (not (is_empty found.1))
    (nat_lt waiting (descriptors signature.kinds)) TrailingBytes MissingDescriptor got h

since_test : (tables : List Interface) (r : Reader) (a : Bool) (e : Fault) (x : Result Received Fault)
    → Free_made tables r x → Free_made tables r (cond a (Err e) x)
since_test tables r true e x h = tt
since_test tables r false e x h = h

free_same : (tables : List Interface) (version : ℕ) (q r : Reader) (ks : List Kind)
    (x : Result (List Argument × List ℕ) Fault) → ((i : ℕ) → q.new_id i ≡ r.new_id i)
    → ((i : ℕ) → q.new_server_id i ≡ r.new_server_id i) → Free_in tables version q ks x
    → Free_in tables version r ks x
free_same tables version q r ks (Err fault) e f h = tt
free_same tables version q r ks (Ok found) e f h = λ m is.
    elim (h m is) [ inl a ↦ inl (sym (e m.id) ∙ a) | inr a ↦ inr (sym (f m.id) ∙ a) ]

free_as : (tables : List Interface) (side : Side) (r : Reader) (header : Header) (body : List ℕ) (waiting : ℕ)
    (entry : Entry) (o : Option MessageSignature) → Free_made tables r (received_as side r header body waiting entry o)
free_as tables side r header body waiting entry None = tt
free_as tables side r header body waiting entry (Some signature) =
    let q : Reader = forgiving (is_error side entry.iface header.opcode) r in
    since_test tables r (nat_lt entry.version signature.since) UnknownMessage
    (received_whole header entry signature waiting (arguments_at q 0 signature.kinds body))
    (free_whole tables r header entry signature waiting (arguments_at q 0 signature.kinds body)
    (free_same tables entry.version q r signature.kinds (arguments_at q 0 signature.kinds body) (λ i. refl) (λ i. refl)
    (free_at tables entry.version q 0 signature.kinds body)))

free_by : (tables : List Interface) (side : Side) (r : Reader) (header : Header) (body : List ℕ) (waiting : ℕ)
    (o : Option Entry) → Free_made tables r (received_by tables side r header body waiting o)
free_by tables side r header body waiting None = tt
free_by tables side r header body waiting (Some entry) =
    free_as tables side r header body waiting entry (signature_at tables entry.iface.0 side header.opcode)

-- ---- a judged message

-- the id is free in its range
record IsNewId (tables : List Interface) (k : KnownAtPlace) (id : ℕ) : Type 0 where
  of_client : is_of_server id ≡ false → is_free_id k id ≡ true
  of_server : is_of_server id ≡ true → is_free_server_id tables k id ≡ true

abbrev Free_changes : List Interface → KnownAtPlace → Result Call Fault → Type 0
Free_changes tables k (Err fault) = Unit {0}
Free_changes tables k (Ok call) = (m : NewObject) → (changes tables call).made ≡ Some m → IsNewId tables k m.id

free_id : (a b : Bool) → new_id_of a b ≡ Free → (a ≡ true) × (b ≡ true)
free_id true true e = (refl, refl)
free_id true false e = absurd (cc)
free_id false b e = absurd (cc)

low : (id : ℕ) → nat_le id max_ids ≡ true → is_of_server id ≡ false
low id few = let l = leb-true id max_ids few in grind (arith, nat_tests, l)

new_of_client : (tables : List Interface) (k : KnownAtPlace) (id : ℕ)
    → new_id_of (is_free_id k id) (nat_le id max_ids) ≡ Free → IsNewId tables k id
new_of_client tables k id e = let f = free_id (is_free_id k id) (nat_le id max_ids) e in record {
  of_client = λ of_client. f.0;
  of_server = λ of_server. absurd (let not_so : is_of_server id ≡ false = low id f.1 in cc);
}

new_of_server : (tables : List Interface) (k : KnownAtPlace) (id : ℕ)
    → new_id_of (is_free_server_id tables k id) (nat_le id max_server_id) ≡ Free → IsNewId tables k id
new_of_server tables k id e =
    let f = free_id (is_free_server_id tables k id) (nat_le id max_server_id) e in
    let a = and_parts (is_of_server id && not (waits_for_request tables (k.object id)))
    (nat_le id (first_server_id + k.server_used)) f.0 in
    let b = and_parts (is_of_server id) (not (waits_for_request tables (k.object id))) a.0 in
    record {
      of_client = λ of_client. absurd (let so : is_of_server id ≡ true = b.0 in cc);
      of_server = λ of_server. f.0;
    }

new_made : (tables : List Interface) (k : KnownAtPlace) (d : Direction) (r : Received)
    → Free_made tables (reader_by tables k d) (Ok r) → (m : NewObject)
    → made tables r.entry.version r.signature.kinds r.values ≡ Some m → IsNewId tables k m.id
new_made tables k d r h m e = elim (h m e) [
  | inl a ↦ new_of_client tables k m.id a
  | inr a ↦ new_of_server tables k m.id a
]

free_called : (tables : List Interface) (k : KnownAtPlace) (d : Direction) (opcode : ℕ) (x : Result Received Fault)
    → Free_made tables (reader_by tables k d) x → Free_changes tables k (called tables k d opcode x)
free_called tables k d opcode (Err fault) h = tt
free_called tables k d opcode (Ok r) h = elim (cases_Bool (is_disallowed_bind tables k (side_of d) opcode r)) [
  | inl bad ↦ rw bad tt
  | inr fine ↦ rw fine (new_made tables k d r h)
]

free_size : (tables : List Interface) (k : KnownAtPlace) (b : Bool) (x : Result Call Fault) → Free_changes tables k x
    → Free_changes tables k (cond b x (Err BadSize))
free_size tables k true x h = h
free_size tables k false x h = tt

judged_free : (limit : ℕ) (tables : List Interface) (k : KnownAtPlace) (stream : List ℕ) (frame : FramedMessage)
    → Free_changes tables k (judged limit tables k stream frame)
judged_free limit tables k stream frame =
    let header = header_at (drop frame.start stream) in
    let body = take (frame.size - 8) (drop (frame.start + 8) stream) in
    let waiting = frame.tokens - k.taken frame.direction in
    let r = reader_by tables k frame.direction in
    free_size tables k (is_size limit frame.size) (judged_message tables k frame header body)
    (free_called tables k frame.direction header.opcode
    (received tables (side_of frame.direction) r header body waiting)
    (free_by tables (side_of frame.direction) r header body waiting (r.object header.object)))

-- ---- each place

pub some_at : {X : Type 0} (xs : List X) (k : ℕ) → k < length xs → (x : X) × (slice_get xs k ≡ Some x)
some_at [] k h = absurd (omega arith)
some_at (x ∷ xs) zero h = (x, refl)
some_at (x ∷ xs) (suc k) h = some_at xs k (omega arith)

named_none : (s : ℕ → MessageChanges) (p i : ℕ) (o : Option ℕ)
    → is_none (option_map (λ m. entry_made_at s m (live_or_zombie (is_ending s m p i))) o) ≡ true → o ≡ None
named_none s p i None h = refl
named_none s p i (Some m) h = absurd (cc)

positive : (n : ℕ) → not (nat_eq n 0) ≡ true → 0 < n
positive n h = grind (arith, nat_tests)

first_id : (new : NewObject) → beginning.made ≡ Some new → new.id ≡ 1
first_id new e = cc

-- an id of the client's range
client_id : (s : ℕ → MessageChanges) (p id : ℕ) → is_free_id (known s p) id ≡ true
    → (holder s p id ≡ None) × (0 < id) × (id ≤ used s p + 1)
client_id s p id f =
    let a = and_parts (not (nat_eq id 0) && is_none (object_named s p id)) (nat_le id (used s p + 1)) f in
    let b = and_parts (not (nat_eq id 0)) (is_none (object_named s p id)) a.0 in
    (named_none s p id (holder s p id) b.1, positive id b.0, leb-true id (used s p + 1) a.1)

-- an id of the server's range
server_id : (tables : List Interface) (s : ℕ → MessageChanges) (p id : ℕ)
    → is_free_server_id tables (known s p) id ≡ true → id ≤ first_server_id + server_used s p
server_id tables s p id f =
    let a = and_parts (is_of_server id && not (waits_for_request tables (object_named s p id)))
    (nat_le id (first_server_id + server_used s p)) f in
    leb-true id (first_server_id + server_used s p) a.1

fresh_made : (tables : List Interface) (s : ℕ → MessageChanges) (p : ℕ) (o : Option NewObject) → (s p).made ≡ o
    → ((new : NewObject) → o ≡ Some new → IsNewId tables (known s p) new.id) → IsFresh s p
fresh_made tables s p None e free = record {
  no_holder = λ i of_client m. absurd (let no : false ≡ true = rw e at m in cc);
  next = λ new is. absurd (cc);
  next_of_server = λ new is. absurd (cc);
}
fresh_made tables s p (Some new) e free = let new_id = free new refl in record {
  no_holder = λ i of_client m. (let is : nat_eq new.id i ≡ true = rw e at m
      in let same : new.id ≡ i = eqb-true new.id i is
      in let own : is_of_server new.id ≡ false = ap (λ (x : ℕ). is_of_server x) same ∙ of_client
      in subst (λ (x : ℕ). holder s p x ≡ None) same (client_id s p new.id (new_id.of_client own)).0);
  next = λ other is of_client. (let same : other ≡ new = cc in
      let own : is_of_server new.id ≡ false = ap (λ (m : NewObject). is_of_server m.id) (sym same) ∙ of_client in
      let facts = client_id s p new.id (new_id.of_client own) in
      subst (λ (m : NewObject). (0 < m.id) × (m.id ≤ used s p + 1)) (sym same) (facts.1, facts.2));
  next_of_server = λ other is of_server. (let same : other ≡ new = cc in
      let own : is_of_server new.id ≡ true = ap (λ (m : NewObject). is_of_server m.id) (sym same) ∙ of_server in
      subst (λ (m : NewObject). m.id ≤ first_server_id + server_used s p) (sym same)
      (server_id tables s p new.id (new_id.of_server own)));
}

fresh_judged : (tables : List Interface) (k : KnownAtPlace) (p : ℕ) (s : ℕ → MessageChanges) (x : Judged)
    → known s p ≡ k
    → s p ≡ changes_of tables (Some x) → Free_changes tables k x → IsFresh s p
fresh_judged tables k p s (Err fault) known_is e h =
    fresh_made tables s p (s p).made refl (λ new is. absurd (let no : None ≡ Some new = rw e at is in cc))
fresh_judged tables k p s (Ok call) known_is e h =
    fresh_made tables s p (s p).made refl (λ new is. subst (λ (x : KnownAtPlace). IsNewId tables x new.id) (sym known_is)
    (h new (sym (ap (λ (d : MessageChanges). d.made) e) ∙ is)))

fresh_place : (tables : List Interface) (session : Session) (k : ℕ) (o : Option Judged)
    → slice_get (messages tables session) k ≡ o → IsFresh (changes_at tables (messages tables session)) (suc k)
fresh_place tables session k None e = fresh_made tables (changes_at tables (messages tables session)) (suc k) None
    (rw e refl) (λ new is. absurd (cc))
fresh_place tables session k (Some x) e =
    let s = changes_at tables (messages tables session) in
    let f = some_at session.frames k (let w = slice_get_within (messages tables session) k x e
    in let l = length_messages tables session in omega (arith, w, l)) in
    let is : Some x ≡ Some (judged session.limit tables (known s (suc k)) (session.streams f.0.direction) f.0) =
    sym e ∙ reading tables session k f.0 f.1 in
    let same : judged session.limit tables (known s (suc k)) (session.streams f.0.direction) f.0 ≡ x = cc in
    fresh_judged tables (known s (suc k)) (suc k) s x refl (rw e refl)
    (subst (Free_changes tables (known s (suc k))) same
    (judged_free session.limit tables (known s (suc k)) (session.streams f.0.direction) f.0))

fresh_first : (tables : List Interface) (ms : List Judged) → IsFresh (changes_at tables ms) 0
unfolding holder used
fresh_first tables ms = record {
  no_holder = λ i of_client m. refl;
  next = λ new is of_client. (let one : new.id ≡ 1 = first_id new is in (omega (arith, one), omega (arith, one)));
  next_of_server = λ new is of_server. (let one : new.id ≡ 1 = first_id new is in omega (arith, one));
}

pub fresh : (tables : List Interface) (session : Session) (p : ℕ)
    → IsFresh (changes_at tables (messages tables session)) p
fresh tables session zero = fresh_first tables (messages tables session)
fresh tables session (suc k) = fresh_place tables session k (slice_get (messages tables session) k) refl
