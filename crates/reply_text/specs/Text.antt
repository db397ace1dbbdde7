-- The text of a step: words with a space between neighbors, and a line feed.
use Rattle.std.specs.Prelude.{ℕ, List, [], ◌∷◌, ◌++◌, Option, Some, None, codes, decimal, flat_map}
use Rattle.std.specs.List.{join_by}
use Rattle.site_vector.specs.declared.ids.TxId.{TxId}
use Rattle.world_model.specs.declared.step.Step.{Step}
use Rattle.world_model.specs.declared.step.Step.TheVariants as step
use Rattle.site_vector.specs.Printed.{part_text, tx_text}
use Rattle.reply_text.specs.Places.{vector_text, word_text, object_text, message_text, report_text, interval_text}
use Rattle.reply_text.specs.Values.{value_text}

abbrev pub line_feed : ℕ
line_feed = 10

abbrev pub line_of : List (List ℕ) → List ℕ
line_of ws = join_by (λ w. w) (codes " ") ws ++ line_feed ∷ []

-- the stamp of an assign, where there is one
abbrev pub stamp_words : Option ℕ → List (List ℕ)
stamp_words None = []
stamp_words (Some n) = codes "stamp" ∷ decimal n ∷ []

-- the last decision, where there is one
abbrev pub decided_words : Option TxId → List (List ℕ)
decided_words None = []
decided_words (Some t) = codes "decided" ∷ tx_text t ∷ []

abbrev pub pending_words : List (TxId × ℕ) → List (List ℕ)
pending_words = flat_map (λ p. codes "pending" ∷ tx_text p.0 ∷ decimal p.1 ∷ [])

abbrev pub words_of : Step → List (List ℕ)
words_of (step.MadeCluster sites parts) = codes "cluster" ∷ decimal sites ∷ decimal parts ∷ []
words_of (step.Ticked part now) = codes "now" ∷ part_text part ∷ decimal now ∷ []
words_of (step.MadeSession name site) = codes "session" ∷ word_text name ∷ decimal site ∷ []
words_of (step.Moved name site) = codes "moved" ∷ word_text name ∷ decimal site ∷ []
words_of (step.Lost name) = codes "lost" ∷ word_text name ∷ []
words_of (step.Began name tx s) = codes "began" ∷ word_text name ∷ tx_text tx ∷ vector_text s ∷ []
words_of (step.Value name object value) = codes "value" ∷ word_text name ∷ object_text object ∷ value_text value ∷ []
words_of (step.Updated name object stamp) = codes "updated" ∷ word_text name ∷ object_text object ∷ stamp_words stamp
words_of (step.Prepared part tx time) = codes "prepared" ∷ part_text part ∷ tx_text tx ∷ decimal time ∷ []
words_of (step.Decided part tx c) = codes "decided" ∷ part_text part ∷ tx_text tx ∷ vector_text c ∷ []
words_of (step.Finished part tx) = codes "finished" ∷ part_text part ∷ tx_text tx ∷ []
words_of (step.Aborted part tx) = codes "aborted" ∷ part_text part ∷ tx_text tx ∷ []
words_of (step.Pending part tx) = codes "pending" ∷ part_text part ∷ tx_text tx ∷ []
words_of (step.Ended name) = codes "ended" ∷ word_text name ∷ []
words_of (step.Settled part) = codes "settled" ∷ part_text part ∷ []
words_of (step.Sent number part to lo hi count) = codes "sent" ∷ message_text number ∷ part_text part ∷ decimal to ∷ interval_text lo hi ∷ decimal count ∷ []
words_of (step.Took number hi) = codes "took" ∷ message_text number ∷ decimal hi ∷ []
words_of (step.Dup number have) = codes "dup" ∷ message_text number ∷ decimal have ∷ []
words_of (step.Gap number have) = codes "gap" ∷ message_text number ∷ decimal have ∷ []
words_of (step.DroppedMessage number) = codes "dropped" ∷ message_text number ∷ []
words_of (step.DroppedReport number) = codes "dropped" ∷ report_text number ∷ []
words_of (step.Reported number part bounds) = codes "report" ∷ report_text number ∷ part_text part ∷ vector_text bounds ∷ []
words_of (step.Heard number part stable) = codes "heard" ∷ report_text number ∷ part_text part ∷ vector_text stable ∷ []
words_of (step.Crashed part) = codes "crashed" ∷ part_text part ∷ []
words_of (step.Fused part call keep) = codes "fused" ∷ part_text part ∷ decimal call ∷ decimal keep ∷ []
words_of (step.Restarted part now bounds decided pending) = codes "restarted" ∷ part_text part ∷ decimal now ∷ vector_text bounds ∷ (decided_words decided ++ pending_words pending)
words_of step.Bad = codes "bad" ∷ []
words_of step.NoCluster = codes "no cluster" ∷ []
words_of step.HasCluster = codes "has cluster" ∷ []
words_of step.NoSession = codes "no session" ∷ []
words_of step.HasSession = codes "has session" ∷ []
words_of step.NoTxn = codes "no txn" ∷ []
words_of step.HasTxn = codes "has txn" ∷ []
words_of step.BadOp = codes "bad op" ∷ []
words_of step.NoMessage = codes "no message" ∷ []
words_of step.NoPart = codes "no part" ∷ []
words_of (step.Down part) = codes "down" ∷ part_text part ∷ []
words_of (step.WaitClock part now) = codes "wait clock" ∷ part_text part ∷ decimal now ∷ []
words_of (step.WaitTxn part tx time) = codes "wait txn" ∷ part_text part ∷ tx_text tx ∷ decimal time ∷ []
words_of (step.WaitStable site have) = codes "wait stable" ∷ decimal site ∷ decimal have ∷ []
words_of (step.Disk part) = codes "disk" ∷ part_text part ∷ []
words_of (step.Unsure tx) = codes "unsure" ∷ tx_text tx ∷ []
words_of (step.Gone part tx) = codes "gone" ∷ part_text part ∷ tx_text tx ∷ []
words_of (step.Damaged part at) = codes "damaged" ∷ part_text part ∷ decimal at ∷ []
words_of (step.Full room) = codes "limit log" ∷ decimal room ∷ []
words_of step.TimeEnd = codes "limit time 4611686018427387904" ∷ []
words_of step.LimitSessions = codes "limit sessions 64" ∷ []
words_of step.LimitUpdates = codes "limit updates 256" ∷ []
words_of step.LimitMessages = codes "limit messages 4096" ∷ []
words_of step.LimitReports = codes "limit reports 4096" ∷ []
words_of step.Unbuilt = codes "limit unbuilt 1" ∷ []

abbrev pub text_of : Step → List ℕ
text_of st = line_of (words_of st)
