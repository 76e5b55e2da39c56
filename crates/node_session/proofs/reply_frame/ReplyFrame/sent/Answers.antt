use Rattle.std.proofs.Common.{◌≡◌, ℕ, ◌-◌, List, [], ◌++◌, length, take, drop, ◌∙◌, ap, sym, arith}
use Rattle.std.proofs.lemmas.List.{length-drop, take_rest}
use Rattle.node_session.proofs.SentParts.{drop_past}
use Rattle.node_session.proofs.reply_frame.ReplyFrame.sent.Goals as goal

pub returns-else-n-waits : goal.returns-else-n-waits
returns-else-n-waits c =
    let was = c.self.inside in
    let late = was.constant.now in
    let left = drop was.sent was.frame.items in
    let gone = c.args.n - (c.len.result - was.sent) in
    let items : c.clear_frame.new.frame.items ≡ [] = c.clear_frame.ensures in
    let cut = length-drop was.sent was.frame.items in
    let same : length left ≡ c.len.result - was.sent = omega (arith, cut, c.len.ensures) in
    let past : drop c.args.n (left ++ late) ≡ drop gone late = drop_past left late c.args.n (omega (arith, same, c.if-n-waits.false)) ∙ ap (λ (k : ℕ). drop (c.args.n - k) late) same in
    rw (sym c.self.view_is) (ap (λ (l : List ℕ). drop 0 l ++ take (length late - gone) (drop gone late)) items ∙ take_rest late gone ∙ sym past)
