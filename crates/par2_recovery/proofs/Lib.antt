mod Common
pub mod OwnBytes
