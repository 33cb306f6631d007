-- A message is judged the same by all tables that complete others, if these do not doubt it.
use Rattle.std.proofs.Common.{◌≡◌, ℕ, zero, suc, ◌+◌, ◌-◌, ◌<◌, ◌≤◌, ◌⊎◌, inl, inr, Bool, true, false, cond, not, ◌&&◌, ◌||◌}
use Rattle.std.proofs.Common.{IfSome, List, [], ◌∷◌, length, drop, take, Some, None, refl, sym, ap, ◌∙◌, arith}
use Rattle.std.proofs.Common.{nat_le}
use Rattle.std.specs.Prelude.{Option, option_map, nat_eq, is_none}
use Rattle.std.specs.Option.{option_map_or}
use Rattle.std.proofs.Math.Path.{fun_ext}
use Rattle.std.proofs.lemmas.Bool.{lt-ltb}
use Rattle.std.proofs.lemmas.Bool.Decides.{nat_tests}
use Rattle.std.specs.declared.result.Result.{Result}
use Rattle.std.specs.declared.result.Result.TheVariants.{Ok, Err}
use Rattle.wl_wire.specs.declared.header.Header.{Header}
use Rattle.wl_wire.specs.declared.kind.Kind.{Kind}
use Rattle.wl_wire.specs.declared.kind.Kind.TheVariants as kinds
use Rattle.wl_wire.specs.declared.kind.Iface.{Iface}
use Rattle.wl_wire.specs.Argument.{Argument, Uint, Str, NewNamed}
use Rattle.wl_wire.specs.Word.{header_at}
use Rattle.wl_sigs.specs.Side.{Side}
use Rattle.wl_sigs.specs.Tables.{MessageSignature, Interface, interface_at, signature_at, place_of}
use Rattle.wl_message.specs.Cut.{is_size}
use Rattle.wl_object_map.specs.declared.object.Entry.{Entry}
use Rattle.wl_object_map.specs.Ranges.{is_of_server, max_server_id, first_server_id}
use Rattle.wl_object_map.specs.View.{lives, max_ids}
use Rattle.wl_objects.specs.declared.error.Fault.{Fault}
use Rattle.wl_objects.specs.declared.error.Fault.TheVariants.{UnknownMessage, BadBind, BadSize}
use Rattle.wl_objects.specs.Reading.{Reader}
use Rattle.wl_objects.specs.Messages.{Received, NewObject, made, made_by, or_else, received, received_as, received_by}
use Rattle.wl_objects.specs.Messages.{is_bind, new_id_of, waits_for_request}
use Rattle.wl_recording.specs.declared.piece.Direction.{Direction}
use Rattle.wl_check.specs.declared.frames.FramedMessage.{FramedMessage}
use Rattle.wl_check.specs.Changes.{Call, side_of, first_number, advertised, changes, is_global}
use Rattle.wl_check.specs.Places.{KnownAtPlace, advertised_by}
use Rattle.wl_check.specs.Rules.{reader_by, nameable, is_free_server_id, version_of, allows_bind}
use Rattle.wl_check.specs.Rules.{is_disallowed_bind, called, judged_message, judged}
use Rattle.theory_completion.specs.Completion.{Completes}
use Rattle.theory_completion.specs.Doubt.{has_version, is_newer_message, names_unknown, some_names_unknown}
use Rattle.theory_completion.specs.Doubt.{makes_unsettled, has_no_version, made_of, is_call_doubtful}
use Rattle.theory_completion.specs.Doubt.{is_message_doubtful, is_frame_doubtful, binds_newer}
use Rattle.theory_completion.proofs.CompletedTables.{signature_stays, signature_is_newer, settled_same, place_same}
use Rattle.theory_completion.proofs.CompletedTables.{place_beyond}
use Rattle.theory_completion.proofs.SameKnown.{IsAlike, IsKnownAlike, Settles}

-- ---- what a message makes and advertises

made_by_same : (tables other : List Interface) (version : ℕ) (kind : Kind) (value : Argument) → Completes tables other
    → names_unknown tables kind value ≡ false → made_by other version kind value ≡ made_by tables version kind value
made_by_same tables other version (kinds.New None) (NewNamed name own id) completes h =
    ap (option_map (λ iface. let new : NewObject = record { id = id; iface = iface; version = own } in new))
    (place_same tables other name completes h)
made_by_same tables other version kind value completes h = refl

or_false_left : (a b : Bool) → (a || b) ≡ false → a ≡ false
or_false_left true b h = absurd (cc (h))
or_false_left false b h = refl

or_false_right : (a b : Bool) → (a || b) ≡ false → b ≡ false
or_false_right true b h = absurd (cc (h))
or_false_right false b h = h

pub made_same : (tables other : List Interface) (version : ℕ) (ks : List Kind) (values : List Argument)
    → Completes tables other → some_names_unknown tables ks values ≡ false
    → made other version ks values ≡ made tables version ks values
made_same tables other version [] values completes h = refl
made_same tables other version (kind ∷ ks) [] completes h = refl
made_same tables other version (kind ∷ ks) (value ∷ values) completes h =
    let a = or_false_left (names_unknown tables kind value) (some_names_unknown tables ks values) h in
    let b = or_false_right (names_unknown tables kind value) (some_names_unknown tables ks values) h in
    let first = made_by_same tables other version kind value completes a in
    let rest = made_same tables other version ks values completes b in
    λ i. or_else (first i) (rest i)

-- what a call reads is settled by the tables
pub record IsSettled (tables : List Interface) (r : Received) : Type 0 where
  pub names : some_names_unknown tables r.signature.kinds r.values ≡ false
  pub made_is : makes_unsettled tables (made_of tables r) ≡ false

and_false : (b : Bool) → (b && false) ≡ false
and_false true = refl
and_false false = refl

abbrev advertises_at : ℕ → ℕ → Option Iface → ℕ → ℕ → ℕ → ℕ
advertises_at global version found name iface before =
    advertised_by (option_map (λ place. record { name = global; iface = place; version = version }) found)
    name iface before

-- a global of an interface behind those of the tables
beyond_alike : (global version : ℕ) (found : Option Iface) (count name iface before : ℕ)
    → ((place : Iface) → found ≡ Some place → count ≤ place.0) → iface < count
    → advertises_at global version found name iface before ≡ before
beyond_alike global version None count name iface before beyond below = refl
beyond_alike global version (Some place) count name iface before beyond below =
    let far = beyond place refl in
    let apart : nat_eq place.0 iface ≡ false = grind (arith, nat_tests, far, below) in
    rw (apart, and_false (nat_eq global name)) refl

found_alike : (tables one other : List Interface) (name : List ℕ) (b : Bool) → is_none (place_of tables name) ≡ b
    → Completes tables one → Completes tables other → (global version key iface before : ℕ) → iface < length tables
    → advertises_at global version (place_of one name) key iface before
    ≡ advertises_at global version (place_of other name) key iface before
found_alike tables one other name false h c d global version key iface before below =
    ap (λ (found : Option Iface). advertises_at global version found key iface before)
    (place_same tables one name c h ∙ sym (place_same tables other name d h))
found_alike tables one other name true h c d global version key iface before below =
    beyond_alike global version (place_of one name) (length tables) key iface before
    (λ place at. place_beyond tables one name place c h at) below
    ∙ sym (beyond_alike global version (place_of other name) (length tables) key iface before
    (λ place at. place_beyond tables other name place d h at) below)

advertised_same : (tables one other : List Interface) (values : List Argument)
    → Completes tables one → Completes tables other → (name iface before : ℕ) → iface < length tables
    → advertised_by (advertised one values) name iface before ≡ advertised_by (advertised other values) name iface before
advertised_same tables one other (Uint global ∷ Str (Some text) ∷ Uint version ∷ []) c d name iface before below =
    found_alike tables one other text (is_none (place_of tables text)) refl c d global version name iface before below
advertised_same tables one other values c d name iface before below = refl

if_global : (tables one other : List Interface) (values : List Argument) (global : Bool)
    → Completes tables one → Completes tables other → (name iface before : ℕ) → iface < length tables
    → advertised_by (cond global (advertised one values) None) name iface before
    ≡ advertised_by (cond global (advertised other values) None) name iface before
if_global tables one other values true c d name iface before below =
    advertised_same tables one other values c d name iface before below
if_global tables one other values false c d name iface before below = refl

-- a call changes the same
pub changes_alike : (tables one other : List Interface) (call : Call) → Completes tables one → Completes tables other
    → IsSettled tables call.received → IsAlike (length tables) (changes one call) (changes other call)
changes_alike tables one other call c d is = let r = call.received in record {
  direction = refl;
  made = made_same tables one r.entry.version r.signature.kinds r.values c is.names
      ∙ sym (made_same tables other r.entry.version r.signature.kinds r.values d is.names);
  deleted = refl;
  destroyed = refl;
  tokens = refl;
  advertised = λ name iface before below. if_global tables one other r.values
      (is_global (side_of call.direction) r.entry.iface call.opcode) c d name iface before below;
}

-- ---- the reader

and_alike : (b x y c d : Bool) → (b ≡ true → x ≡ y) → c ≡ d → (b && x && c) ≡ (b && y && d)
and_alike true x y c d same is = let s = same refl in λ i. s i && is i
and_alike false x y c d same is = refl

waits_alike : (tables one other : List Interface) (o : Option Entry) → Completes tables one → Completes tables other
    → IfSome o (λ (e : Entry). Settles tables e.iface.0 e.version)
    → waits_for_request one o ≡ waits_for_request other o
waits_alike tables one other None c d is = refl
waits_alike tables one other (Some e) c d is =
    ap (λ b. lives e.state && b) (settled_same tables one e.iface.0 e.version c is
    ∙ sym (settled_same tables other e.iface.0 e.version d is))

-- the objects of the server are settled
abbrev pub AreSettled : List Interface → KnownAtPlace → Type 0
AreSettled tables k = (id : ℕ) → is_of_server id ≡ true
    → IfSome (k.object id) (λ (e : Entry). Settles tables e.iface.0 e.version)

server_id_alike : (tables one other : List Interface) (k l : KnownAtPlace) (id : ℕ)
    → Completes tables one → Completes tables other → IsKnownAlike (length tables) k l → AreSettled tables k
    → is_free_server_id one k id ≡ is_free_server_id other l id
server_id_alike tables one other k l id c d same settled =
    let objects = same.object in
    let counts = same.server_used_is in
    and_alike (is_of_server id) (not (waits_for_request one (k.object id))) (not (waits_for_request other (l.object id)))
    (nat_le id (first_server_id + k.server_used)) (nat_le id (first_server_id + l.server_used))
    (λ of. ap not (waits_alike tables one other (k.object id) c d (settled id of)
    ∙ (λ i. waits_for_request other (objects i id))))
    (λ i. nat_le id (first_server_id + counts i))

pub reader_alike : (tables one other : List Interface) (k l : KnownAtPlace) (direction : Direction)
    → Completes tables one → Completes tables other → IsKnownAlike (length tables) k l → AreSettled tables k
    → reader_by one k direction ≡ reader_by other l direction
reader_alike tables one other k l direction c d same settled =
    let o = same.object in
    let u = same.used_is in
    let free = fun_ext (λ id. server_id_alike tables one other k l id c d same settled) in
    λ i. record {
      object = λ id. nameable direction (o i id);
      new_id = λ id. new_id_of (not (nat_eq id 0) && is_none (o i id) && nat_le id (u i + 1)) (nat_le id max_ids);
      new_server_id = λ id. new_id_of (free i id) (nat_le id max_server_id);
      birth = 0;
      forgives = false;
    }

-- ---- what was read

if_some : {X : Type 0} (o : Option X) (P : X → Type 0) → ((x : X) → o ≡ Some x → P x) → IfSome o P
if_some None P h = tt
if_some (Some x) P h = h x refl

-- two look-ups find the same message, or only messages that are newer than the target
abbrev FoundAlike : ℕ → Option MessageSignature → Option MessageSignature → Type 0
FoundAlike version one other = (one ≡ other)
    ⊎ ((IfSome one (λ (m : MessageSignature). version < m.since)) × (IfSome other (λ (m : MessageSignature). version < m.since)))

unknown : (side : Side) (reader : Reader) (header : Header) (body : List ℕ) (waiting : ℕ) (entry : Entry)
    (o : Option MessageSignature) → IfSome o (λ (m : MessageSignature). entry.version < m.since)
    → received_as side reader header body waiting entry o ≡ Err UnknownMessage
unknown side reader header body waiting entry None late = refl
unknown side reader header body waiting entry (Some m) late = rw (lt-ltb entry.version m.since late) refl

as_alike : (side : Side) (reader : Reader) (header : Header) (body : List ℕ) (waiting : ℕ) (entry : Entry)
    (one other : Option MessageSignature) → FoundAlike entry.version one other
    → received_as side reader header body waiting entry one ≡ received_as side reader header body waiting entry other
as_alike side reader header body waiting entry one other (inl same) =
    ap (received_as side reader header body waiting entry) same
as_alike side reader header body waiting entry one other (inr late) =
    unknown side reader header body waiting entry one late.0
    ∙ sym (unknown side reader header body waiting entry other late.1)

has_if : (has : Bool) → (not has && true) ≡ false → has ≡ true
has_if true h = refl
has_if false h = absurd (cc (h))

found_by : (tables one other : List Interface) (side : Side) (opcode : ℕ) (entry : Entry) (o : Option MessageSignature)
    → Completes tables one → Completes tables other → signature_at tables entry.iface.0 side opcode ≡ o
    → (not (has_version tables entry.iface entry.version) && is_none o) ≡ false
    → FoundAlike entry.version (signature_at one entry.iface.0 side opcode) (signature_at other entry.iface.0 side opcode)
found_by tables one other side opcode entry (Some m) c d at h =
    inl (signature_stays tables one entry.iface.0 side opcode m c at
    ∙ sym (signature_stays tables other entry.iface.0 side opcode m d at))
found_by tables one other side opcode entry None c d at h =
    let has = has_if (has_version tables entry.iface entry.version) h in
    inr (
      if_some (signature_at one entry.iface.0 side opcode) (λ (m : MessageSignature). entry.version < m.since)
          (λ m is. signature_is_newer tables one entry.iface entry.iface.0 entry.version side opcode m c has at is),
      if_some (signature_at other entry.iface.0 side opcode) (λ (m : MessageSignature). entry.version < m.since)
          (λ m is. signature_is_newer tables other entry.iface entry.iface.0 entry.version side opcode m d has at is),
    )

received_alike : (tables one other : List Interface) (side : Side) (reader : Reader) (header : Header) (body : List ℕ)
    (waiting : ℕ) (o : Option Entry) → Completes tables one → Completes tables other
    → is_newer_message tables side header.opcode o ≡ false
    → received_by one side reader header body waiting o ≡ received_by other side reader header body waiting o
received_alike tables one other side reader header body waiting None c d h = refl
received_alike tables one other side reader header body waiting (Some entry) c d h =
    as_alike side reader header body waiting entry (signature_at one entry.iface.0 side header.opcode)
    (signature_at other entry.iface.0 side header.opcode)
    (found_by tables one other side header.opcode entry (signature_at tables entry.iface.0 side header.opcode) c d refl h)

-- ---- binds

allows_alike : (x y z w : Bool) → y ≡ true → ((x && y && w) ≡ true → z ≡ true) → (x && y && w) ≡ (x && z && w)
allows_alike false y z w is h = refl
allows_alike true false z w is h = absurd (cc (is))
allows_alike true true true w is h = refl
allows_alike true true false true is h = sym (h refl)
allows_alike true true false false is h = refl

pub version_known : (tables : List Interface) (iface : Iface) (version : ℕ) (o : Option Interface)
    → interface_at tables iface.0 ≡ o
    → option_map_or (λ (i : Interface). nat_le version i.version) o false ≡ true
    → nat_le version (option_map_or (λ (i : Interface). i.version) o 0) ≡ true
version_known tables iface version None at h = absurd (cc (h))
version_known tables iface version (Some i) at h = h

within : (tables : List Interface) (place version : ℕ)
    → option_map_or (λ (i : Interface). nat_le version i.version) (interface_at tables place) false ≡ true
    → place < length tables
within [] place version h = absurd (cc (h))
within (i ∷ is) zero version h = omega arith
within (i ∷ is) (suc place) version h = let w = within is place version h in omega (arith, w)

pub not_false : (b : Bool) → not b ≡ false → b ≡ true
not_false true h = refl
not_false false h = absurd (cc (h))

-- whether a bind is allowed, by tables that know its version
bind_alike : (one other : List Interface) (count : ℕ) (k l : KnownAtPlace) (name : Option ℕ) (new : Option NewObject)
    → length one ≡ count → IsKnownAlike count k l → has_no_version one new ≡ false
    → (allows_bind one k name new ≡ true → has_no_version other new ≡ false)
    → allows_bind one k name new ≡ allows_bind other l name new
bind_alike one other count k l None new len same has knows = refl
bind_alike one other count k l (Some name) None len same has knows = refl
bind_alike one other count k l (Some name) (Some new) len same has knows =
    let known_one = not_false (has_version one new.iface new.version) has in
    let at = within one new.iface.0 new.version known_one in
    let global = same.advertised name new.iface.0 (omega (arith, at, len)) in
    allows_alike (nat_le 1 new.version) (nat_le new.version (version_of one new.iface))
    (nat_le new.version (version_of other new.iface)) (nat_le new.version (k.advertised_version name new.iface.0))
    (version_known one new.iface new.version (interface_at one new.iface.0) refl known_one)
    (λ allowed. version_known other new.iface new.version (interface_at other new.iface.0) refl
    (not_false (has_version other new.iface new.version) (knows allowed)))
    ∙ (λ i. nat_le 1 new.version && nat_le new.version (version_of other new.iface)
    && nat_le new.version (global i))

-- ---- a whole message

pub knows_bind : (tables other : List Interface) (direction : Direction) (opcode : ℕ) (r : Received) (bind allowed : Bool)
    → is_bind (side_of direction) r.entry.iface opcode ≡ bind → bind ≡ true → allowed ≡ true
    → binds_newer tables other (Some (cond (bind && not allowed) (Err BadBind)
    (Ok (record { direction = direction; opcode = opcode; received = r })))) ≡ false
    → has_no_version other (made_of tables r) ≡ false
knows_bind tables other direction opcode r false allowed is its may h = absurd (cc (its))
knows_bind tables other direction opcode r true false is its may h = absurd (cc (may))
knows_bind tables other direction opcode r true true is its may h =
    ap (λ b. b && has_no_version other (made_of tables r)) (sym is) ∙ h

pub disallowed_alike : (bind x y : Bool) → (bind ≡ true → x ≡ y) → (bind && not x) ≡ (bind && not y)
disallowed_alike true x y same = ap not (same refl)
disallowed_alike false x y same = refl

-- the judgement by tables that know the bind is the same
called_alike : (tables one other : List Interface) (k l : KnownAtPlace) (direction : Direction) (opcode : ℕ)
    (x : Result Received Fault)
    → Completes tables one → Completes tables other → length one ≡ length tables
    → IsKnownAlike (length tables) k l → is_call_doubtful tables one (side_of direction) opcode x ≡ false
    → binds_newer tables other (Some (called one k direction opcode x)) ≡ false
    → called one k direction opcode x ≡ called other l direction opcode x
called_alike tables one other k l direction opcode (Err fault) c d len same h knows = refl
called_alike tables one other k l direction opcode (Ok r) c d len same h knows =
    let names = some_names_unknown tables r.signature.kinds r.values in
    let bind = is_bind (side_of direction) r.entry.iface opcode in
    let front = or_false_left (names || (bind && has_no_version one (made_of tables r)))
    (makes_unsettled tables (made_of tables r)) h in
    let named = or_false_left names (bind && has_no_version one (made_of tables r)) front in
    let bound = or_false_right names (bind && has_no_version one (made_of tables r)) front in
    let one_made = made_same tables one r.entry.version r.signature.kinds r.values c named in
    let other_made = made_same tables other r.entry.version r.signature.kinds r.values d named in
    let name = first_number r.values in
    let allowed : bind ≡ true → allows_bind one k name (made_of one r) ≡ allows_bind other l name (made_of other r) =
    (λ is. ap (allows_bind one k name) one_made
    ∙ bind_alike one other (length tables) k l name (made_of tables r) len same
    (ap (λ b. b && has_no_version one (made_of tables r)) (sym is) ∙ bound)
    (λ may. knows_bind tables other direction opcode r bind (allows_bind one k name (made_of one r)) refl is
    (ap (allows_bind one k name) one_made ∙ may) knows)
    ∙ sym (ap (allows_bind other l name) other_made)) in
    ap (λ bad. cond bad (Err BadBind) (Ok (record { direction = direction; opcode = opcode; received = r })))
    (disallowed_alike bind (allows_bind one k name (made_of one r)) (allows_bind other l name (made_of other r)) allowed)

message_alike : (tables one other : List Interface) (k l : KnownAtPlace) (frame : FramedMessage) (header : Header)
    (body : List ℕ)
    → Completes tables one → Completes tables other → length one ≡ length tables
    → IsKnownAlike (length tables) k l → AreSettled tables k
    → is_message_doubtful tables one k frame header body ≡ false
    → binds_newer tables other (Some (judged_message one k frame header body)) ≡ false
    → judged_message one k frame header body ≡ judged_message other l frame header body
message_alike tables one other k l frame header body c d len same settled h knows =
    let way = frame.direction in
    let side = side_of way in
    let reader = reader_by one k way in
    let waiting = frame.tokens - k.taken way in
    let x = received one side reader header body waiting in
    let target = or_false_left (is_newer_message tables side header.opcode (reader.object header.object))
    (is_call_doubtful tables one side header.opcode x) h in
    let call = or_false_right (is_newer_message tables side header.opcode (reader.object header.object))
    (is_call_doubtful tables one side header.opcode x) h in
    let readers = reader_alike tables one other k l way c d same settled in
    let tokens = same.taken_is way in
    called_alike tables one other k l way header.opcode x c d len same call knows
    ∙ ap (called other l way header.opcode)
    (received_alike tables one other side reader header body waiting (reader.object header.object) c d target)
    ∙ (λ i. called other l way header.opcode
    (received other side (readers i) header body (frame.tokens - tokens i)))

frame_alike : (tables one other : List Interface) (k l : KnownAtPlace) (frame : FramedMessage) (header : Header)
    (body : List ℕ) (good : Bool)
    → Completes tables one → Completes tables other → length one ≡ length tables
    → IsKnownAlike (length tables) k l → AreSettled tables k
    → (good && is_message_doubtful tables one k frame header body) ≡ false
    → binds_newer tables other (Some (cond good (judged_message one k frame header body) (Err BadSize))) ≡ false
    → cond good (judged_message one k frame header body) (Err BadSize)
    ≡ cond good (judged_message other l frame header body) (Err BadSize)
frame_alike tables one other k l frame header body true c d len same settled h knows =
    message_alike tables one other k l frame header body c d len same settled h knows
frame_alike tables one other k l frame header body false c d len same settled h knows = refl

-- a message is judged the same, with what is known alike
pub judged_alike : (limit : ℕ) (tables one other : List Interface) (k l : KnownAtPlace) (stream : List ℕ)
    (frame : FramedMessage)
    → Completes tables one → Completes tables other → length one ≡ length tables
    → IsKnownAlike (length tables) k l → AreSettled tables k
    → is_frame_doubtful limit tables one k stream frame ≡ false
    → binds_newer tables other (Some (judged limit one k stream frame)) ≡ false
    → judged limit one k stream frame ≡ judged limit other l stream frame
judged_alike limit tables one other k l stream frame c d len same settled h knows =
    frame_alike tables one other k l frame (header_at (drop frame.start stream))
    (take (frame.size - 8) (drop (frame.start + 8) stream)) (is_size limit frame.size) c d len same settled h knows

-- ---- what was read is settled

abbrev received_in : Received → Result Call Fault → Received
received_in r (Ok call) = call.received
received_in r (Err fault) = r

called_received : (bad : Bool) (direction : Direction) (opcode : ℕ) (r : Received) (call : Call)
    → cond bad (Err BadBind) (Ok (record { direction = direction; opcode = opcode; received = r })) ≡ Ok call
    → r ≡ call.received
called_received true direction opcode r call is = absurd (cc (is))
called_received false direction opcode r call is = ap (received_in r) is

first_of_three : (a b c : Bool) → (a || b || c) ≡ false → a ≡ false
first_of_three true b c h = absurd (cc (h))
first_of_three false b c h = refl

last_of_three : (a b c : Bool) → (a || b || c) ≡ false → c ≡ false
last_of_three true b c h = absurd (cc (h))
last_of_three false true c h = absurd (cc (h))
last_of_three false false c h = h

settled_by : (tables : List Interface) (bind : Bool) (r : Received)
    → (some_names_unknown tables r.signature.kinds r.values || bind || makes_unsettled tables (made_of tables r)) ≡ false
    → IsSettled tables r
settled_by tables bind r h = record {
  names = first_of_three (some_names_unknown tables r.signature.kinds r.values) bind (makes_unsettled tables (made_of tables r)) h;
  made_is = last_of_three (some_names_unknown tables r.signature.kinds r.values) bind (makes_unsettled tables (made_of tables r)) h;
}

call_settled : (tables one : List Interface) (k : KnownAtPlace) (direction : Direction) (opcode : ℕ)
    (x : Result Received Fault) (call : Call)
    → is_call_doubtful tables one (side_of direction) opcode x ≡ false → called one k direction opcode x ≡ Ok call
    → IsSettled tables call.received
call_settled tables one k direction opcode (Err fault) call h is = absurd (cc (is))
call_settled tables one k direction opcode (Ok r) call h is =
    let same = called_received (is_disallowed_bind one k (side_of direction) opcode r) direction opcode r call is in
    let bind = is_bind (side_of direction) r.entry.iface opcode && has_no_version one (made_of tables r) in
    let settled : IsSettled tables r = settled_by tables bind r h in
    rw (← same) settled

frame_settled : (tables one : List Interface) (k : KnownAtPlace) (frame : FramedMessage) (header : Header)
    (body : List ℕ) (good : Bool) (call : Call)
    → (good && is_message_doubtful tables one k frame header body) ≡ false
    → cond good (judged_message one k frame header body) (Err BadSize) ≡ Ok call → IsSettled tables call.received
frame_settled tables one k frame header body false call h is = absurd (cc (is))
frame_settled tables one k frame header body true call h is =
    let side = side_of frame.direction in
    let reader = reader_by one k frame.direction in
    let x = received one side reader header body (frame.tokens - k.taken frame.direction) in
    call_settled tables one k frame.direction header.opcode x call
    (or_false_right (is_newer_message tables side header.opcode (reader.object header.object))
    (is_call_doubtful tables one side header.opcode x) h) is

pub judged_settled : (limit : ℕ) (tables one : List Interface) (k : KnownAtPlace) (stream : List ℕ)
    (frame : FramedMessage) (call : Call) → is_frame_doubtful limit tables one k stream frame ≡ false
    → judged limit one k stream frame ≡ Ok call → IsSettled tables call.received
judged_settled limit tables one k stream frame call h is =
    frame_settled tables one k frame (header_at (drop frame.start stream))
    (take (frame.size - 8) (drop (frame.start + 8) stream)) (is_size limit frame.size) call h is
