-- Working words beside those of `Replies`.
use Rattle.std.specs.Prelude.{ℕ, ◌≡◌, ◌⊎◌, List}
use Rattle.std.specs.declared.option.Option.{Option}
use Rattle.reply.specs.declared.stop.Stop.{Stop}
use Rattle.reply.specs.declared.stop.Stop.TheVariants.{NoPlan, Write, Memory}
use Rattle.reply.specs.Replies.{Reply, Traces, traces, HasReplied, HasBegun}

-- what a stop leaves: without a plan, all as it was; a failed out, a reply begun; out of memory, one or the other
abbrev pub Leaves : Stop → (Reply → Type 0) → Traces → Traces → Type 0
Leaves NoPlan IsReply old new = new ≡ old
Leaves Write IsReply old new = HasBegun IsReply old new
Leaves Memory IsReply old new = (new ≡ old) ⊎ HasBegun IsReply old new

-- out gained a reply of a kind that fetches nothing and looks at nothing
abbrev pub HasPrinted : (Reply → Type 0) → Option (List ℕ) → Option (List ℕ) → Type 0
HasPrinted IsReply old new = HasReplied IsReply (traces old 0 0) (traces new 0 0)

-- out gained some first bytes of such a reply
abbrev pub HasBegunPrinting : (Reply → Type 0) → Option (List ℕ) → Option (List ℕ) → Type 0
HasBegunPrinting IsReply old new = HasBegun IsReply (traces old 0 0) (traces new 0 0)

-- what a stop leaves of such a reply
abbrev pub LeavesPrinted : Stop → (Reply → Type 0) → Option (List ℕ) → Option (List ℕ) → Type 0
LeavesPrinted stop IsReply old new = Leaves stop IsReply (traces old 0 0) (traces new 0 0)
