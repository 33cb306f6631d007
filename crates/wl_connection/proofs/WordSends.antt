-- What a call of words returns, writes and ends.
use Rattle.std.proofs.Common.{◌≡◌, ◌≢◌, ℕ, ◌+◌, ◌*◌, ◌≤◌, true, false, List, [], length, refl, sym, ap}
use Rattle.std.proofs.Common.{subst, ◌∙◌}
use Rattle.std.proofs.Common.{Ok, Err}
use Rattle.std.specs.declared.option.Option.TheVariants.{None}
use Rattle.wl_wire.specs.declared.kind.Kind.{Kind}
use Rattle.wl_sigs.specs.Side.{Side}
use Rattle.wl_sigs.specs.Destroys.{Destroys}
use Rattle.wl_sigs.specs.Destroys.TheVariants.{Nothing, Target, Arg as ends_arg}
use Rattle.wl_sigs.specs.Tables.{MessageSignature, destroys_one}
use Rattle.wl_sigs.specs.Valid.{Valid}
use Rattle.wl_object_map.specs.declared.object.Object.{Object}
use Rattle.wl_object_map.specs.Objects.{is_live, look}
use Rattle.wl_objects.specs.declared.error.SendError.{SendError}
use Rattle.wl_objects.specs.declared.error.SendError.TheVariants as refusals
use Rattle.wl_objects.specs.Messages.{checked, ended_id, destroys, kinds_at}
use Rattle.wl_objects.specs.Writing.{given, on_wire, message_len, message_bytes, tokens_of, numbers_by, words_on_wire}
use Rattle.wl_objects.specs.Writing.{wrong_place}
use Rattle.wl_objects.proofs.Wholes.{passes, length-message}
use Rattle.wl_objects.proofs.Words.{numbers-len, numbers-tokens, numbers-no-id, numbers-make-none, numbers-message}
use Rattle.std.proofs.Common.{get_or, Fits}
use Rattle.std.specs.Int.{w32}
use Rattle.wl_message.specs.Outgoing.{with_message}
use Rattle.wl_connection.specs.Core.{Core, HasDisplay, with_view}
use Rattle.wl_connection.specs.Sending.{after_send, fits, following, following_len, send_answer, with_following}
use Rattle.wl_connection.specs.Sending.{with_sent}
use Rattle.wl_connection.proofs.CheckedSends.{ended-known, ended-live, ended-other, made-next, send-leaves, written-known}
use Rattle.wl_connection.proofs.Messages.{fits-after, fits-less}

-- no word names the object that a message destroys
pub ended-same : (what : Destroys) (target n : ℕ) (ks : List Kind) (words : List ℕ)
    → ended_id what target [] ≡ ended_id what target (on_wire n (numbers_by ks words))
ended-same Nothing target n ks words = refl
ended-same Target target n ks words = refl
ended-same (ends_arg place) target n ks words = sym (numbers-no-id n ks words place)

-- the room that a call of words needs
pub words-need : (ks : List Kind) (words : List ℕ) (more : ℕ)
    → 8 + 4 * length words + more ≡ message_len (on_wire 0 (numbers_by ks words)) + more
words-need ks words more = ap (λ (n : ℕ). n + more) (sym (numbers-len 0 ks words))

words-room : (core : Core) (ks : List Kind) (words : List ℕ) (len more : ℕ) → len ≡ 8 + 4 * length words
    → fits core.outbox (message_len (on_wire 0 (numbers_by ks words)) + more)
    (length (tokens_of (given (numbers_by ks words)))) ≡ fits core.outbox (len + more) 0
words-room core ks words len more is =
    ap (λ (n : ℕ). fits core.outbox (n + more) (length (tokens_of (given (numbers_by ks words)))))
    (numbers-len 0 ks words ∙ sym is)
    ∙ ap (λ (l : List ℕ). fits core.outbox (len + more) (length l)) (numbers-tokens ks words)

-- a call of words that has no room
pub words-full : (core : Core) (side : Side) (target : Object) (opcode : ℕ) (ks : List Kind) (words : List ℕ)
    (signature : MessageSignature) (len more : ℕ) → core.failed ≡ false
    → checked core.outbox.limit.bytes core.tables side core.view target opcode (given (numbers_by ks words)) ≡ Ok signature
    → len ≡ 8 + 4 * length words → more ≡ following_len side signature.destroys
    → fits core.outbox (len + more) 0 ≡ false
    → send_answer core side target opcode (given (numbers_by ks words)) ≡ Err refusals.Full
words-full core side target opcode ks words signature len more alive e is m fit =
    let room = words-room core ks words len (following_len side signature.destroys) is
    ∙ ap (λ (n : ℕ). fits core.outbox (len + n) 0) (sym m) ∙ fit in
    rw (alive, e, room) refl

-- a call of words that is accepted returns no object
pub words-answered : (core : Core) (side : Side) (target : Object) (opcode : ℕ) (ks : List Kind) (words : List ℕ)
    (signature : MessageSignature) (len more : ℕ) → core.failed ≡ false
    → checked core.outbox.limit.bytes core.tables side core.view target opcode (given (numbers_by ks words)) ≡ Ok signature
    → ks ≡ signature.kinds
    → len ≡ 8 + 4 * length words → more ≡ following_len side signature.destroys
    → fits core.outbox (len + more) 0 ≡ true
    → send_answer core side target opcode (given (numbers_by ks words)) ≡ Ok None
words-answered core side target opcode ks words signature len more alive e same is m fit =
    let list = numbers_by ks words in
    let p = passes core.outbox.limit.bytes core.tables side core.view target opcode (given list) signature e in
    let room = words-room core ks words len (following_len side signature.destroys) is
    ∙ ap (λ (n : ℕ). fits core.outbox (len + n) 0) (sym m) ∙ fit in
    let none = numbers-make-none 0 signature.kinds words
    (subst (λ (k : List Kind). wrong_place 0 signature.kinds (given (numbers_by k words)) ≡ None) same p.suit) in
    let made = made-next core side target opcode list signature p.entry e p.row in
    rw (alive, e, room, made, none) refl

-- the kinds that words are read by are those of the message that is found
pub called-kinds : (core : Core) (side : Side) (target : Object) (opcode : ℕ) (ks : List Kind) (words : List ℕ)
    (signature : MessageSignature)
    → checked core.outbox.limit.bytes core.tables side core.view target opcode (given (numbers_by ks words)) ≡ Ok signature
    → kinds_at core.tables side opcode (look core.view target.id) ≡ signature.kinds
called-kinds core side target opcode ks words signature e =
    let p = passes core.outbox.limit.bytes core.tables side core.view target opcode (given (numbers_by ks words)) signature e in
    rw (p.row, p.exists) refl

-- a call of words leaves what `send` leaves
pub words-leave : (core written ended : Core) (side : Side) (target : Object) (opcode : ℕ) (ks : List Kind)
    (words : List ℕ) (signature : MessageSignature) (what : Destroys)
    → checked core.outbox.limit.bytes core.tables side core.view target opcode (given (numbers_by ks words)) ≡ Ok signature
    → ks ≡ signature.kinds → ((i : ℕ) → Fits w32 (get_or words i 0))
    → written ≡ with_sent core target.id opcode (words_on_wire words) []
    → ended ≡ with_following (following side what) (ended_id what target.id [])
    (with_view written (destroys side what (ended_id what target.id []) written.view))
    → what ≡ signature.destroys
    → ended ≡ after_send core side target opcode (given (numbers_by ks words))
words-leave core written ended side target opcode ks words signature what e same f w d is =
    let list = numbers_by ks words in
    let p = passes core.outbox.limit.bytes core.tables side core.view target opcode (given list) signature e in
    let none = numbers-make-none 0 signature.kinds words
    (subst (λ (k : List Kind). wrong_place 0 signature.kinds (given (numbers_by k words)) ≡ None) same p.suit) in
    let numbers : written ≡ with_sent core target.id opcode (on_wire 0 list) [] =
    w ∙ ap (λ (bytes : List ℕ). record core { outbox = with_message core.outbox bytes [] })
    (sym (numbers-message target.id opcode 0 ks words f)) in
    send-leaves core ended side target opcode (given list) signature e
    (ended-known core written ended side target opcode list signature what (ended_id what target.id [])
    (written-known core core written side target opcode list signature p.entry None None [] e p.row (sym none) refl tt
    numbers (sym (numbers-tokens ks words)))
    d is (ended-same what target.id 0 ks words))

-- ---- what a call of words destroys

pub words-live : (core written : Core) (side : Side) (target : Object) (opcode : ℕ) (ks : List Kind) (words : List ℕ)
    (signature : MessageSignature) (what : Destroys) → Valid core.tables
    → checked core.outbox.limit.bytes core.tables side core.view target opcode (given (numbers_by ks words)) ≡ Ok signature
    → written ≡ with_sent core target.id opcode (words_on_wire words) [] → what ≡ signature.destroys
    → is_live written.view (ended_id what target.id []) ≡ true
words-live core written side target opcode ks words signature what v e w is =
    ap (λ (k : Core). is_live k.view (ended_id what target.id [])) w
    ∙ (ap (is_live core.view) (ended-same what target.id 0 ks words)
    ∙ (ap (λ (d : Destroys). is_live core.view (ended_id d target.id (on_wire 0 (numbers_by ks words)))) is
    ∙ ended-live core side target opcode (numbers_by ks words) signature None 0 v e))

pub words-other : (core : Core) (side : Side) (target : Object) (opcode : ℕ) (ks : List Kind) (words : List ℕ)
    (signature : MessageSignature) (what : Destroys) → Valid core.tables → HasDisplay core.view
    → checked core.outbox.limit.bytes core.tables side core.view target opcode (given (numbers_by ks words)) ≡ Ok signature
    → what ≡ signature.destroys → destroys_one what ≡ true → ended_id what target.id [] ≢ 1
words-other core side target opcode ks words signature what v d e is one =
    subst (λ (n : ℕ). n ≢ 1) (sym (ended-same what target.id 0 ks words
    ∙ ap (λ (x : Destroys). ended_id x target.id (on_wire 0 (numbers_by ks words))) is))
    (ended-other core side target opcode (numbers_by ks words) signature v d e (ap destroys_one (sym is) ∙ one))

-- there is room for the event that follows
pub words-behind : (core written : Core) (target opcode len more : ℕ) (words : List ℕ) → len ≡ 8 + 4 * length words
    → written ≡ with_sent core target opcode (words_on_wire words) [] → fits core.outbox (len + more) 0 ≡ true
    → fits written.outbox more 0 ≡ true
words-behind core written target opcode len more words is w h =
    let bytes : length (message_bytes target opcode (words_on_wire words)) ≡ len =
    length-message target opcode (words_on_wire words) ∙ (numbers-len 0 [] words ∙ sym is) in
    ap (λ (k : Core). fits k.outbox more 0) w
    ∙ fits-after core.outbox (message_bytes target opcode (words_on_wire words)) [] more
    (ap (λ (n : ℕ). fits core.outbox (n + more) 0) bytes ∙ h)

-- ---- what is written

pub words-short : (core : Core) (side : Side) (target : Object) (opcode : ℕ) (ks : List Kind) (words : List ℕ)
    (signature : MessageSignature)
    → checked core.outbox.limit.bytes core.tables side core.view target opcode (given (numbers_by ks words)) ≡ Ok signature
    → message_len (words_on_wire words) ≤ core.outbox.limit.bytes
words-short core side target opcode ks words signature e =
    let p = passes core.outbox.limit.bytes core.tables side core.view target opcode (given (numbers_by ks words)) signature e in
    subst (λ (n : ℕ). n ≤ core.outbox.limit.bytes) (numbers-len 0 ks words ∙ sym (numbers-len 0 [] words)) p.len

pub words-alone : (core : Core) (words : List ℕ) (len more : ℕ) → len ≡ 8 + 4 * length words
    → fits core.outbox (len + more) 0 ≡ true → fits core.outbox (message_len (words_on_wire words)) 0 ≡ true
words-alone core words len more is h =
    subst (λ (n : ℕ). fits core.outbox n 0 ≡ true) (is ∙ sym (numbers-len 0 [] words))
    (fits-less core.outbox len more 0 h)
